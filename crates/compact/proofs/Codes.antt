-- THE CODE DOES NOT DEPEND ON ROW NUMBERS: two tables whose registers differ in their row numbers alone, in the same sequence, have one code.
-- Assumes nothing.
use Prim.Native.Nat.{ℕ, ◌/◌, ◌%◌, ◌≤◌}
use mathlib.Core.Path.{◌≡◌, refl, sym, ap, ◌∙◌}
use mathlib.Core.Logic.{◌≢◌}
use mathlib.Core.Bool.{Bool, true, false}
use mathlib.Core.List.{List, map}
use native.Mathlib.Omega.{arith}
use borrow.Author.Tests.{eqb-true, eqb-false, ne_eqb}
use lib.Dec.{eqb}
use lib.ListN.{length}
use Rattle.history.specs.declared.Op.{Op}
use Rattle.history.specs.declared.Answer.{Answer}
use Rattle.history.specs.Table.{largest_count, history}
use Rattle.history.specs.Answer.{number, first_met, passed}
use Rattle.history.specs.declared.Code.TheVariants.{Spent}
use Rattle.methods.specs.Mark.{Outcome, k_of, mark_tests, mark_of, mark}
use Rattle.preparation.proofs.Rows.{history_rows}
use Rattle.meaning.specs.Marked.{Passes, Marked, is_refused, is_spent, is_stale, is_fresh}
use Rattle.meaning.proofs.Outcomes.{met_passes, marked?}
use Rattle.marks.specs.Marks.{answer_to, most_trials}
use Rattle.marks.proofs.Saying.{places, answer_said}
use Rattle.compact.specs.Renumbered.{renumbered, Keeps}
use Rattle.compact.proofs.Orders.{orders_on, orders_back}
use Rattle.compact.proofs.Tests.{same_refusal}

-- a refused call has the code of the refusal
module _ (size : ℕ) (h : List Op) (question : ℕ) where
  abbrev met : Answer
  met = first_met (mark_tests size h question places) (passed (length h))

  abbrev out : Outcome
  out = mark_of size h question most_trials places

  refused_code : met.code ≢ 0 → out.answer.code ≡ met.code
  unfolding mark_of
  refused_code n = rw (ne_eqb met.code 0 n) refl

module _ (t u : List ℕ) (register question : ℕ) (f : ℕ → ℕ) (keeps : Keeps f (history u register)) (same : history t register ≡ map (renumbered f) (history u register)) where
  abbrev ht : List Op
  ht = history t register

  abbrev hu : List Op
  hu = history u register

  -- both are marked: fresh of one is fresh of the other
  marked_alike : (a b : Outcome) → Passes (length t) ht question places → Passes (length u) hu question places →
      Marked (length t) ht question most_trials places a → Marked (length u) hu question most_trials places b →
      a.answer.code ≢ number Spent → b.answer.code ≢ number Spent → a.answer.code ≡ b.answer.code
  marked_alike a b p q (is_refused n z l) m x y = absurd (n p)
  marked_alike a b p q (is_spent r l) m x y = absurd (x refl)
  marked_alike a b p q (is_stale r l n) (is_refused n' z l') x y = absurd (n' q)
  marked_alike a b p q (is_stale r l n) (is_spent r' l') x y = absurd (y refl)
  marked_alike a b p q (is_stale r l n) (is_stale r' l' n') x y = refl
  marked_alike a b p q (is_stale r l n) (is_fresh {o = o} r' l' i) x y = absurd (n (map (renumbered f) o) (rw same (orders_on f hu keeps (k_of question) o i)))
  marked_alike a b p q (is_fresh {o = o} r l i) (is_refused n' z l') x y = absurd (n' q)
  marked_alike a b p q (is_fresh {o = o} r l i) (is_spent r' l') x y = absurd (y refl)
  marked_alike a b p q (is_fresh {o = o} r l i) (is_stale r' l' n') x y =
      let back = orders_back f hu keeps (history_rows u register) (k_of question) o (rw same at i) in absurd (n' back.0 back.1)
  marked_alike a b p q (is_fresh {o = o} r l i) (is_fresh {o = o'} r' l' i') x y = refl

  module _ (whole : length t % 5 ≡ 0) (few : length t / 5 ≤ largest_count) (whole' : length u % 5 ≡ 0) (few' : length u / 5 ≤ largest_count) where
    same_met : (met (length t) ht question).code ≡ (met (length u) hu question).code
    same_met =
        ap (λ h. (met (length t) h question).code) same
        ∙ same_refusal f hu keeps (length u) (length t) question places (passed (length (map (renumbered f) hu))) (passed (length hu)) whole' few' whole few refl

    pub same_code : (answer_to t register question most_trials).code ≡ (answer_to u register question most_trials).code
    unfolding answer_to mark
    same_code = go (eqb (met (length t) ht question).code 0) refl
      where
        go : (b : Bool) → eqb (met (length t) ht question).code 0 ≡ b → (out (length t) ht question).answer.code ≡ (out (length u) hu question).answer.code
        go true e =
            let z = eqb-true (met (length t) ht question).code 0 e in
            marked_alike _ _ (met_passes (length t) ht question places z) (met_passes (length u) hu question places (sym same_met ∙ z))
            (marked? (length t) ht question places (history_rows t register) most_trials) (marked? (length u) hu question places (history_rows u register) most_trials)
            (answer_said t register question most_trials (λ q. omega arith)).unspent (answer_said u register question most_trials (λ q. omega arith)).unspent
        go false e =
            let n = eqb-false (met (length t) ht question).code 0 e in
            refused_code (length t) ht question n ∙ same_met ∙ sym (refused_code (length u) hu question (λ z. n (same_met ∙ z)))
