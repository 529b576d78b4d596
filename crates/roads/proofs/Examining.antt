-- A register by its own rows: its screening, and what the marking call answers.
-- Assumes nothing.
use Prim.Native.Nat.{ℕ, ◌≤◌}
use mathlib.Core.Path.{◌≡◌, refl, sym, ap, ap₂, ◌∙◌}
use mathlib.Core.Logic.{◌≢◌}
use mathlib.Core.Bool.{false}
use mathlib.Core.List.{List, map}
use native.Mathlib.Omega.{arith}
use lib.ListN.{length, length-map, length-replicate}
use Rattle.history.specs.declared.Op.{Op}
use Rattle.history.specs.declared.Answer.{Answer}
use Rattle.history.specs.Table.{largest_count, op_at, history}
use Rattle.history.specs.Answer.{first_met, passed}
use Rattle.history.specs.Screen.{tests, examined, screening, Screened}
use Rattle.history.proofs.Rows.{in_rows, rows_rise, rows_few, history_count}
use Rattle.history.proofs.Refusals.{code_no_fault, no_fault_answer}
use Rattle.history.proofs.Screened.{tests_coded, screening_exactly}
use Rattle.conditions.specs.Tests.{row_tests, Listed as Rising}
use Rattle.writers.specs.Writers.{Within}
use Rattle.screening.proofs.Examined.{past_three}
use Rattle.lists.proofs.Sorts.{sort_length}
use Rattle.preparation.specs.Times.{begins_first, by_time}
use Rattle.methods.specs.Mark.{Outcome, mark, row_numbers}
use Rattle.ranking.specs.Ranked.{Fit}
use Rattle.columns.specs.Rows.{Listed}
use Rattle.columns.proofs.Lent.{gathered_fit}
use Rattle.searches.specs.Replies.{outcome}
use Rattle.marker.specs.declared.Question.{Question}
use Rattle.marker.specs.Questions.{number}
use Rattle.marker.specs.Called.{judged_by}
use Rattle.marker.proofs.Asking.{asked_is}
use Rattle.marker.proofs.Refusing.{met_refused, met_passed, mark_refused, mark_marked}
use Rattle.marks.specs.Marks.{answer_to}
use Rattle.marks.proofs.Places.{same_answer}
use Rattle.marks.proofs.Saying.{places}
use Rattle.roads.specs.Examined.{Sound, RowsOf, Examined}

module _ (t : List ℕ) (s : Sound t) (register : ℕ) where
  abbrev h : List Op
  h = history t register

  -- no more rows than a table has
  pub rows_fit : length h ≤ largest_count
  rows_fit = omega (arith, rows_few t register, s.few)

  module _ (rows : List ℕ) (e : RowsOf t register rows) where
    rows_within : Within t rows
    rows_within x m = omega (arith, (in_rows t register (rw e at m)).exists)

    -- they rise
    pub rows_rising : Rising t rows
    rows_rising = record { within = rows_within; rising = rw e (rows_rise t register); few = omega (arith, ap length e, history_count t register, rows_fit) }

    -- THE SCREENING, from the tests of the rows
    screened_by : (met : Answer) → met ≡ first_met (row_tests (map (op_at t) rows)) (passed (length rows)) → met ≡ screening t register
    unfolding screening history
    screened_by met q =
        q
        ∙ ap₂ (λ l n. first_met (row_tests l) (passed n)) (ap (map (op_at t)) e) (ap length e ∙ sym (history_count t register))
        ∙ sym (past_three (length t) (history t register) false s.whole s.few refl)

    pub examined_refused : (met : Answer) → met ≡ first_met (row_tests (map (op_at t) rows)) (passed (length rows)) → met.code ≢ 0 → Examined t register met rows
    examined_refused met q n = record { answer = screened_by met q; listed = λ z. absurd (n z) }

    -- where it passes
    passed_screened : (met : Answer) → met ≡ first_met (row_tests (map (op_at t) rows)) (passed (length rows)) → met.code ≡ 0 → Screened (length t) h
    passed_screened met q z = (screening_exactly t register).0 (sym (ap (λ x. x.code) (screened_by met q)) ∙ z)

    -- what is taken for the sort
    pub passed_fit : (met : Answer) → met ≡ first_met (row_tests (map (op_at t) rows)) (passed (length rows)) → met.code ≡ 0 → Fit t rows
    passed_fit met q z = gathered_fit t register (passed_screened met q z) rows e

    pub examined_passed : (met : Answer) → met ≡ first_met (row_tests (map (op_at t) rows)) (passed (length rows)) → (new : List ℕ) → new ≡ row_numbers (by_time (map (op_at t) rows)) →
        Examined t register met new
    unfolding history
    examined_passed met q new sorted =
        record {
          answer = screened_by met q;
          listed =
              λ z.
              record {
                screened = passed_screened met q z;
                listed = sorted ∙ ap (λ (l : List ℕ). row_numbers (by_time (map (op_at t) l))) e;
              };
        }

  -- as many by rising time
  pub listed_few : (rows : List ℕ) → Listed t register rows → length rows ≤ largest_count
  unfolding by_time
  listed_few rows g = omega (arith, ap length g.listed, length-map (by_time h) (λ x. x.row), sort_length begins_first h, rows_fit)

  -- what a register that passes is answered
  passed_is : (met : Answer) → met ≡ screening t register → met.code ≡ 0 → met ≡ passed (length h)
  unfolding screening examined
  passed_is met q z =
      let xs = tests (length t) h false in
      q ∙ no_fault_answer xs (passed (length h)) (code_no_fault xs (tests_coded (length t) h false) (passed (length h)) (sym (ap (λ x. x.code) q) ∙ z))

  module _ (question : Question) (allowance : ℕ) (met : Answer) where
    -- a refusal of the screening is the marking call's
    pub answer_refused : met ≡ screening t register → met.code ≢ 0 → met ≡ answer_to t register (number question) allowance
    unfolding answer_to screening
    answer_refused q n =
        ap (λ (o : Outcome). o.answer)
        (mark_refused t register (number question) allowance places met (met_refused (length t) h (number question) places false (asked_is question) met q (length places) refl n) n)

    -- THE MARK, from what the method of the question gives
    pub answer_marked : met ≡ screening t register → met.code ≡ 0 → (list : List ℕ) → length list ≡ largest_count → (a : Answer) (after : List ℕ) →
        outcome a after ≡ judged_by t register (number question) allowance list → a ≡ answer_to t register (number question) allowance
    unfolding answer_to screening mark
    answer_marked q z list long a after j =
        let few : met.rows ≤ largest_count = omega (arith, ap (λ x. x.rows) (passed_is met q z), rows_fit) in
        let first = met_passed (length t) h (number question) list false (asked_is question) met q largest_count long z few in
        let e = mark_marked t register (number question) allowance list met first z (outcome a after) j in
        ap (λ (o : Outcome). o.answer) e
        ∙ same_answer h list places (omega (arith, rows_fit, long)) (omega (arith, rows_fit, length-replicate {A = ℕ} largest_count 0)) (length t) (number question) allowance
