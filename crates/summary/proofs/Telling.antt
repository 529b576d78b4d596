-- What the numbers of each entry say: a mark of the entry's register.
-- Assumes nothing.
use Prim.Native.Nat.{ℕ, ◌+◌, ◌*◌, ◌<◌}
use mathlib.Core.Path.{◌≡◌, refl, sym, ap, ◌∙◌}
use mathlib.Core.List.{List, flat_map}
use native.Mathlib.Omega.{arith}
use lib.ListN.{length, get_or, drop}
use borrow.Author.Tests.{eq-eqb}
use Rattle.history.specs.declared.Answer.{Answer}
use Rattle.history.specs.Answer.{passed}
use Rattle.history.proofs.Refusals.{Coded, code_no_fault, no_fault_answer}
use Rattle.methods.specs.Mark.{written}
use Rattle.marks.proofs.Saying.{answer_said}
use Rattle.grouping.specs.Registers.{registers}
use Rattle.lists.proofs.Entries.{flat_at}
use Rattle.summary.specs.Summary.{entry, summary_of, summary_tests, summary_answer, summary_list, Meant, Tells}
use Rattle.summary.proofs.Entries.{entry_long}

-- what the marks of a register say: neither question counts trials
pub meant : (t : List ℕ) (register : ℕ) → Meant t register
meant t register =
    record {
      one = answer_said t register 1 0 (λ (q : 1 ≡ 2). absurd (omega arith));
      two = answer_said t register 3 0 (λ (q : 3 ≡ 2). absurd (omega arith));
    }

module _ (t list : List ℕ) where
  pub tests_coded : Coded (summary_tests t (length list))
  unfolding summary_tests
  tests_coded = omega arith

  -- a call that refuses nothing answers the count of the registers
  pub summary_passed : (summary_answer t list).code ≡ 0 → summary_answer t list ≡ passed (length (registers t))
  unfolding summary_answer
  summary_passed e = no_fault_answer (summary_tests t (length list)) (passed (length (registers t))) (code_no_fault (summary_tests t (length list)) tests_coded (passed (length (registers t))) e)

  -- and writes the entries
  pub summary_written : (summary_answer t list).code ≡ 0 → summary_list t list ≡ written (summary_of t) list
  unfolding summary_list
  summary_written e = rw (eq-eqb (summary_answer t list).code 0 e) refl

  -- WHAT EACH ENTRY SAYS
  module _ (a : Answer) (after : List ℕ) (left : (a ≡ summary_answer t list) × (after ≡ summary_list t list)) (i : ℕ) (z : a.code ≡ 0) (h : i < a.rows) where
    passes : (summary_answer t list).code ≡ 0
    passes = sym (ap (λ x. x.code) left.0) ∙ z

    number_at : (j : ℕ) → j < 5 → get_or after (i * 5 + j) 0 ≡ get_or (entry t (get_or (registers t) i 0)) j 0
    unfolding summary_of
    number_at j k =
        let l : i < length (registers t) = omega (arith, h, ap (λ x. x.rows) (left.0 ∙ summary_passed passes)) in
        ap (λ (m : List ℕ). get_or m (i * 5 + j) 0) (left.1 ∙ summary_written passes)
        ∙ flat_at (entry t) 5 (entry_long t) 0 (registers t) (written_rest) i j l k
      where
        written_rest : List ℕ
        written_rest = drop (length (flat_map (entry t) (registers t))) list

    pub tells : Tells t after i
    unfolding entry
    tells =
        let r = get_or (registers t) i 0 in
        let e : i * 5 ≡ i * 5 + 0 = omega arith in
        let number : get_or after (i * 5) 0 ≡ r = ap (λ (k : ℕ). get_or after k 0) e ∙ number_at 0 (omega arith) in
        record {
          one = rw (number, number_at 2 (omega arith)) (meant t r).one;
          two = rw (number, number_at 3 (omega arith)) (meant t r).two;
        }

  -- THE CONTRACT, from the answer and the list after the call
  pub promised : (a : Answer) (after : List ℕ) → (a ≡ summary_answer t list) × (after ≡ summary_list t list) →
      ((a ≡ summary_answer t list) × (after ≡ summary_list t list)) × ((i : ℕ) → a.code ≡ 0 → i < a.rows → Tells t after i)
  promised a after left = (left, tells a after left)
