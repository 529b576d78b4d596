-- The report from the summary: the refusals that are left, and the text.
-- Assumes nothing.
use Prim.Native.Nat.{ℕ, ◌*◌, ◌%◌, ◌≤◌}
use mathlib.Core.Path.{◌≡◌, refl, sym, ap, ◌∙◌}
use mathlib.Core.Logic.{◌≢◌}
use mathlib.Core.Bool.{Bool, true, false}
use mathlib.Core.List.{List, ◌++◌}
use native.Mathlib.Omega.{arith}
use lib.Dec.{ltb, eqb}
use lib.ListN.{length, take, replicate, length-append, length-replicate}
use borrow.Author.Tests.{eqb-true, eq-eqb, ltb-false, le-ltb, not-false}
use Rattle.lists.proofs.Stores.{front_is, front_long, front_in}
use Rattle.history.specs.declared.Answer.{Answer}
use Rattle.history.specs.Table.{largest_count, row_count}
use Rattle.history.specs.Answer.{first_met, passed}
use Rattle.history.proofs.Refusals.{NoFault, code_no_fault, if_so_lem}
use Rattle.methods.specs.Mark.{written}
use Rattle.text.specs.Decimal.{lines_of}
use Rattle.text.proofs.Joins.{lines_length}
use Rattle.grouping.specs.Registers.{registers}
use Rattle.summary.specs.Summary.{summary_of, summary_tests, summary_answer, summary_list}
use Rattle.summary.proofs.Answering.{summary_long}
use Rattle.summary.proofs.Telling.{tests_coded, summary_passed, summary_written}
use Rattle.grouping.proofs.Ascending.{registers_few}
use Rattle.printing.specs.Texts.{text_answer, text_after, Printed}
use Rattle.report.specs.Report.{header, report_of, report_tests, report_answer, report_after}

-- places for five numbers of each of 1,024 registers
abbrev pub places : List ℕ
places = replicate 5120 0

module _ (t out : List ℕ) where
  abbrev Reported : Answer → List ℕ → Type 0
  Reported a after = (a ≡ report_answer t out) × (after ≡ report_after t out)

  -- the summary refuses a ragged or an overfull table, and nothing else
  module _ (zero : (summary_answer t places).code ≡ 0) where
    faultless : NoFault (summary_tests t (length places))
    unfolding summary_answer
    faultless = code_no_fault (summary_tests t (length places)) (tests_coded t places) (passed (length (registers t))) zero

    pub whole : length t % 5 ≡ 0
    unfolding summary_tests
    whole = eqb-true (length t % 5) 0 (not-false _ (if_so_lem _ faultless.0))

    pub few : row_count t ≤ largest_count
    unfolding summary_tests
    few = ltb-false largest_count (row_count t) (if_so_lem _ faultless.1.0)

  refused_reported : (a : Answer) → a ≡ summary_answer t places → a.code ≢ 0 → Reported a out
  unfolding summary_answer summary_tests report_answer report_after report_tests first_met
  refused_reported a e n = go (eqb (length t % 5) 0) (ltb largest_count (row_count t)) refl refl
    where
      go : (b c : Bool) → eqb (length t % 5) 0 ≡ b → ltb largest_count (row_count t) ≡ c → Reported a out
      go false c p q = (e ∙ rw p refl, sym (rw p refl))
      go true true p q = (e ∙ rw (p, q) refl, sym (rw (p, q) refl))
      go true false p q =
          let r = le-ltb (length places) (length (summary_of t)) (omega (arith, summary_long t places, registers_few t, ltb-false largest_count (row_count t) q, length-replicate {A = ℕ} 5120 0)) in
          let z : (summary_answer t places).code ≡ 0 = rw (p, q, r) refl in
          absurd (n (ap (λ x. x.code) e ∙ z))

  -- what the summary left: its answer and the numbers
  module _ (a : Answer) (numbers : List ℕ) (s : (a ≡ summary_answer t places) × (numbers ≡ summary_list t places)) where
    pub report_refused : a.code ≢ 0 → Reported a out
    report_refused n = refused_reported a s.0 n

    module _ (z : a.code ≡ 0) where
      zero : (summary_answer t places).code ≡ 0
      zero = sym (ap (λ x. x.code) s.0) ∙ z

      rows : a.rows ≡ length (registers t)
      rows = ap (λ x. x.rows) (s.0 ∙ summary_passed t places zero)

      pub lines_few : a.rows ≤ 1024
      lines_few = omega (arith, rows, registers_few t, few zero)

      is_written : numbers ≡ written (summary_of t) places
      is_written = s.1 ∙ summary_written t places zero

      long : length (summary_of t) ≡ a.rows * 5
      long = omega (arith, rows, summary_long t places)

      numbers_are : take (a.rows * 5) numbers ≡ summary_of t
      numbers_are = front_is (summary_of t) _ numbers (a.rows * 5) long is_written

      pub numbers_long : a.rows * 5 ≡ length (take (a.rows * 5) numbers)
      numbers_long = front_long (summary_of t) _ numbers (a.rows * 5) long is_written

      pub numbers_in : a.rows * 5 ≤ length numbers
      numbers_in = front_in (summary_of t) _ numbers (a.rows * 5) long is_written

      pub report_printed : (r : Answer) (after : List ℕ) → Printed (header ++ lines_of 5 a.rows (take (a.rows * 5) numbers)) out r after → Reported r after
      unfolding report_answer report_after report_tests report_of first_met
      report_printed r after p =
          let e = eq-eqb (length t % 5) 0 (whole zero) in
          let f = le-ltb largest_count (row_count t) (few zero) in
          let text : header ++ lines_of 5 a.rows (take (a.rows * 5) numbers) ≡ report_of t = rw (rows, ← rows, numbers_are) refl in
          (p.0 ∙ ap (λ x. text_answer x out) text ∙ sym (rw (e, f) refl), p.1 ∙ ap (λ x. text_after x out) text ∙ sym (rw (e, f) refl))

-- a table of whole rows, no more than 1,024, is not refused
pub report_whole : (t out : List ℕ) → length t % 5 ≡ 0 → row_count t ≤ largest_count → (r : Answer) (after : List ℕ) →
    (r ≡ report_answer t out) × (after ≡ report_after t out) → Printed (report_of t) out r after
unfolding report_answer report_after report_tests first_met
report_whole t out w f r after p =
    let e = eq-eqb (length t % 5) 0 w in
    let g = le-ltb largest_count (row_count t) f in
    (p.0 ∙ rw (e, g) refl, p.1 ∙ rw (e, g) refl)

-- a report has at most 106 bytes for each of 1,024 registers, behind its header
pub report_bound : (t : List ℕ) → row_count t ≤ largest_count → length (report_of t) ≤ 108570
unfolding report_of
report_bound t f =
    let lines = lines_of 5 (length (registers t)) (summary_of t) in
    omega (arith, f, length-append header lines, lines_length 5 (length (registers t)) (summary_of t), registers_few t)
