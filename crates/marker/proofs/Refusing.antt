-- Tests 1 to 10 as the code runs them, 1 to 9 and then the list's length; and what the marking call's contract says, from one equation.
-- Assumes nothing.
use Prim.Native.Nat.{ℕ, ◌≤◌, ◌<◌}
use mathlib.Core.Path.{◌≡◌, refl, sym, ap, ap₂, ◌∙◌}
use mathlib.Core.Logic.{◌≢◌}
use mathlib.Core.Bool.{Bool, true, false}
use mathlib.Core.List.{List, [], ◌∷◌, ◌++◌}
use native.Mathlib.Omega.{arith}
use borrow.Author.Tests.{eq-eqb, ne_eqb, lt-ltb, le-ltb}
use lib.Dec.{ltb}
use lib.ListN.{length}
use Rattle.history.specs.declared.Op.{Op}
use Rattle.history.specs.declared.Answer.{Answer}
use Rattle.history.specs.Table.{history, Alike}
use Rattle.history.specs.Answer.{refused, Test, test, if_so, first_met, passed}
use Rattle.history.specs.declared.Code.TheVariants.{ShortList}
use Rattle.history.specs.Screen.{tests, examined}
use Rattle.history.proofs.Rows.{same_history}
use Rattle.history.proofs.Refusals.{coded_append, code_no_fault, no_fault_answer, met_stop, met_on}
use Rattle.history.proofs.Screened.{tests_coded}
use Rattle.methods.specs.Prepared.{prepared}
use Rattle.methods.specs.Mark.{Outcome, no_question, method, judged, mark_tests, mark_of, mark}
use Rattle.meaning.specs.Marked.{Passes}
use Rattle.meaning.specs.Demand.{Demand}
use Rattle.meaning.proofs.Outcomes.{met_passes}
use Rattle.meaning.proofs.Demand.{demand_3}
use Rattle.searches.specs.Replies.{outcome}
use Rattle.marker.proofs.Asking.{asked_not}

module _ (size : ℕ) (h : List Op) (question : ℕ) (list : List ℕ) where
  -- what tests 1 to 9 give
  abbrev nine : Answer
  nine = examined size h (no_question question)

  -- test 10
  abbrev ten : Test
  ten = test ShortList (if_so (ltb (length list) (length h)))

  -- what tests 1 to 10 give
  abbrev pub met : Answer
  met = first_met (mark_tests size h question list) (passed (length h))

  -- what they give where tests 1 to 9 refuse, and where they refuse nothing
  met_first : nine.code ≢ 0 → met ≡ nine
  unfolding mark_tests examined
  met_first n = met_stop (tests size h (no_question question)) (ten ∷ []) (passed (length h)) refl n

  met_past : nine.code ≡ 0 → met ≡ first_met (ten ∷ []) (passed (length h))
  unfolding mark_tests examined
  met_past z = met_on (tests size h (no_question question)) (ten ∷ []) (passed (length h)) (tests_coded size h (no_question question)) z

  -- where they refuse nothing, their answer has the count of the rows
  nine_passed : nine.code ≡ 0 → nine ≡ passed (length h)
  unfolding examined
  nine_passed e =
      let xs = tests size h (no_question question) in
      no_fault_answer xs (passed (length h)) (code_no_fault xs (tests_coded size h (no_question question)) (passed (length h)) e)

  -- where they refuse nothing, the answer of tests 1 to 10 has it too
  pub met_counted : (a : Answer) → a ≡ met → a.code ≡ 0 → a.rows ≡ length h
  unfolding mark_tests
  met_counted a e z =
      let xs = tests size h (no_question question) in
      let cx = coded_append xs (ten ∷ []) (tests_coded size h (no_question question)) (omega arith) in
      let done = passed (length h) in
      ap (λ x. x.rows) (e ∙ no_fault_answer (xs ++ ten ∷ []) done (code_no_fault (xs ++ ten ∷ []) cx done (sym (ap (λ x. x.code) e) ∙ z)))

  -- b is the condition of test 3, a the answer of tests 1 to 9, and the list has so many places
  module _ (b : Bool) (unasked : b ≡ no_question question) (a : Answer) (e : a ≡ examined size h b) (room : ℕ) (long : length list ≡ room) where
    -- it is the defined one, with its code and its count of rows
    same : a ≡ nine
    same = e ∙ ap (examined size h) unasked

    code : a.code ≡ nine.code
    code = ap (λ x. x.code) same

    rows : nine.code ≡ 0 → a.rows ≡ length h
    rows z = ap (λ x. x.rows) (same ∙ nine_passed z)

    -- a refusal by tests 1 to 9
    pub met_refused : a.code ≢ 0 → a ≡ met
    met_refused n = same ∙ sym (met_first (λ z. n (code ∙ z)))

    -- a list with fewer places than there are rows
    pub met_short : a.code ≡ 0 → room < a.rows → (r : Answer) → r ≡ refused ShortList 0 → r ≡ met
    unfolding first_met
    met_short z l r k =
        let few : length list < length h = omega (arith, long, rows (sym code ∙ z)) in
        k ∙ sym (met_past (sym code ∙ z) ∙ rw (lt-ltb (length list) (length h) few) refl)

    -- no refusal
    pub met_passed : a.code ≡ 0 → a.rows ≤ room → a ≡ met
    unfolding first_met
    met_passed z l =
        let enough : length h ≤ length list = omega (arith, long, rows (sym code ∙ z)) in
        same ∙ nine_passed (sym code ∙ z) ∙ sym (met_past (sym code ∙ z) ∙ rw (le-ltb (length list) (length h) enough) refl)

module _ (t : List ℕ) (register question allowance : ℕ) (list : List ℕ) where
  -- what tests 1 to 10 give of the table's register
  abbrev first : Answer
  first = met (length t) (history t register) question list

  -- the rows of the register alone count
  alike_mark : (u : List ℕ) → Alike t u register → mark t register question allowance list ≡ mark u register question allowance list
  unfolding mark
  alike_mark u a = ap₂ (λ n h. mark_of n h question allowance list) a.size (same_history a)

  -- THE CONTRACT of the call, from the one equation
  pub promises : (out : Outcome) → out ≡ mark t register question allowance list →
      (out ≡ mark t register question allowance list) × (Demand t register question allowance list out × ((u : List ℕ) → Alike t u register → out ≡ mark u register question allowance list))
  promises out e = (e, (rw e (demand_3 t register question allowance list), λ u a. e ∙ alike_mark u a))

  -- a refusal leaves the list as it was
  pub mark_refused : (a : Answer) → a ≡ first → a.code ≢ 0 → outcome a list ≡ mark t register question allowance list
  unfolding mark mark_of
  mark_refused a e n =
      ap (λ x. outcome x list) e ∙ sym (rw (ne_eqb first.code 0 (λ z. n (ap (λ x. x.code) e ∙ z))) refl)

  -- no refusal says that the tests are passed
  pub mark_passes : (a : Answer) → a ≡ first → a.code ≡ 0 → Passes (length t) (history t register) question list
  mark_passes a e z = met_passes (length t) (history t register) question list (sym (ap (λ x. x.code) e) ∙ z)

  -- where there is no such question, something is refused
  pub mark_unasked : no_question question ≡ true → (a : Answer) → a ≡ first → a.code ≢ 0
  mark_unasked n a e z = let f : false ≡ no_question question = asked_not question (mark_passes a e z).asked in cc

  -- and then the outcome is the method's
  pub mark_marked : (a : Answer) → a ≡ first → a.code ≡ 0 → (out : Outcome) →
      out ≡ judged (length (history t register)) allowance list (method question (prepared (history t register))) → out ≡ mark t register question allowance list
  unfolding mark mark_of
  mark_marked a e z out k = k ∙ sym (rw (eq-eqb first.code 0 (sym (ap (λ x. x.code) e) ∙ z)) refl)
