-- Each outcome of the marking call is one of the cases.
-- Assumes nothing.
use Prim.Native.Nat.{ℕ, ◌≤◌, ◌<◌}
use mathlib.Core.Path.{◌≡◌, refl, ap}
use mathlib.Core.Logic.{◌⊎◌, inl, inr, ◌≢◌}
use mathlib.Core.Bool.{Bool, true, false, cond, not, ◌||◌}
use mathlib.Core.List.{List, [], ◌∷◌}
use native.Mathlib.Omega.{arith}
use lib.Dec.{ltb, eqb}
use lib.ListN.{length}
use borrow.Author.Tests.{ltb-true, ltb-false, lt-ltb, le-ltb, eqb-true, eqb-false, not-false}
use Rattle.std.specs.Prelude.{Option, Some, None}
use Rattle.lists.proofs.Tests.{Told, told_true, true_told, told_as, told_or, told_eqb}
use Rattle.history.specs.declared.Op.{Op}
use Rattle.history.specs.declared.Answer.{Answer}
use Rattle.history.specs.Answer.{number, Test, test, if_so, refused_or, first_met, passed}
use Rattle.history.specs.declared.Code.TheVariants.{Spent, ShortList}
use Rattle.history.specs.Screen.{tests}
use Rattle.history.proofs.Refusals.{NoFault, Coded, no_fault_append, no_fault_left, no_fault_right, code_no_fault, no_fault_answer, if_so_lem, if_not}
use Rattle.history.proofs.Screened.{no_fault_asked, no_fault_screened, screened_no_fault}
use Rattle.methods.specs.Prepared.{prepared}
use Rattle.methods.specs.Zones.{Decision, none, order}
use Rattle.methods.specs.Mark.{Outcome, no_question, k_of, Result, method, answered, marked, judged, mark_tests, mark_of}
use Rattle.preparation.specs.Claims.{RowsRise}
use Rattle.meaning.specs.Marked.{Passes, trials_of, Marked, is_refused, is_spent, is_stale, is_fresh}
use Rattle.meaning.proofs.Methods.{Settles, settles_none, settles_order, method_settles}

-- No test gives the code of spent or of stale, and so the answer's is neither.
abbrev Other : ℕ → Type 0
Other code = (code ≢ 11) × (code ≢ 12)

abbrev Small : List Test → Type 0
Small [] = Unit {0}
Small (x ∷ xs) = Other (number x.code) × Small xs

small_met : (xs : List Test) → Small xs → (a : Answer) → Other a.code → Other (first_met xs a).code
unfolding first_met
small_met [] h a l = l
small_met (x ∷ xs) h a l = go x.fault (small_met xs h.1 a l)
  where
    go : (f : Option ℕ) → Other (first_met xs a).code → Other (refused_or x.code f (first_met xs a)).code
    go (Some row) k = h.0
    go None k = k

told_asked : (question : ℕ) → Told ((question ≡ 1) ⊎ (question ≡ 2) ⊎ (question ≡ 3)) (eqb question 1 || eqb question 2 || eqb question 3)
told_asked question = told_as right left (told_or (told_or (told_eqb question 1) (told_eqb question 2)) (told_eqb question 3))
  where
    right : ((question ≡ 1) ⊎ (question ≡ 2)) ⊎ (question ≡ 3) → (question ≡ 1) ⊎ (question ≡ 2) ⊎ (question ≡ 3)
    right (inl (inl e)) = inl e
    right (inl (inr e)) = inr (inl e)
    right (inr e) = inr (inr e)

    left : (question ≡ 1) ⊎ (question ≡ 2) ⊎ (question ≡ 3) → ((question ≡ 1) ⊎ (question ≡ 2)) ⊎ (question ≡ 3)
    left (inl e) = inl (inl e)
    left (inr (inl e)) = inl (inr e)
    left (inr (inr e)) = inr e

module _ (size : ℕ) (h : List Op) (question : ℕ) (list : List ℕ) where
  abbrev nine : List Test
  nine = tests size h (no_question question)

  abbrev ten : List Test
  ten = test ShortList (if_so (ltb (length list) (length h))) ∷ []

  abbrev met : Answer
  met = first_met (mark_tests size h question list) (passed (length h))

  mark_coded : Coded (mark_tests size h question list)
  unfolding mark_tests tests
  mark_coded = omega arith

  mark_small : Small (mark_tests size h question list)
  unfolding mark_tests tests
  mark_small = omega arith

  no_fault : Passes size h question list → NoFault (mark_tests size h question list)
  unfolding mark_tests
  no_fault p =
      no_fault_append nine ten
      (screened_no_fault size h (no_question question) (ap not (true_told (told_asked question) p.asked)) p.screened)
      (if_not _ (le-ltb (length list) (length h) p.room), tt)

  passes : NoFault (mark_tests size h question list) → Passes size h question list
  unfolding mark_tests
  passes f =
      let e = no_fault_left nine ten f in
      record {
        screened = no_fault_screened size h (no_question question) e;
        asked = told_true (told_asked question) (not-false _ (no_fault_asked size h (no_question question) e));
        room = ltb-false (length list) (length h) (if_so_lem _ (no_fault_right nine ten f).0);
      }

  -- code 0 of tests 1 to 10 says that they are passed
  pub met_passes : met.code ≡ 0 → Passes size h question list
  met_passes e = passes (code_no_fault (mark_tests size h question list) mark_coded (passed (length h)) e)

  -- what the method gives, by cases
  module _ (a : RowsRise h) (allowance : ℕ) where
    abbrev Mine : Outcome → Type 0
    Mine out = Marked size h question allowance list out

    judged? : Passes size h question list → Mine (judged (length h) allowance list (method question (prepared h)))
    unfolding judged marked
    judged? p = go (ltb allowance (trials_of h question)) refl (method question (prepared h)).decision (method_settles p.screened a question p.asked)
      where
        go : (b : Bool) → ltb allowance (trials_of h question) ≡ b → (d : Decision) → Settles (k_of question) h d →
            Mine (cond b (record { answer = answered Spent 0 allowance; list = list }) (marked (length h) (trials_of h question) list d))
        go true e d s = is_spent p (ltb-true _ _ e)
        go false e none (settles_none n) = is_stale p (ltb-false allowance (trials_of h question) e) n
        go false e (order q) (settles_order {o = o} r k) = rw r (is_fresh {o = o} p (ltb-false allowance (trials_of h question) e) k)

    -- THE CASES
    pub marked? : Mine (mark_of size h question allowance list)
    unfolding mark_of
    marked? = go (eqb met.code 0) refl
      where
        go : (b : Bool) → eqb met.code 0 ≡ b → Mine (cond b (judged (length h) allowance list (method question (prepared h))) (record { answer = met; list = list }))
        go true e = judged? (met_passes (eqb-true _ _ e))
        go false e =
            is_refused {a = met}
            (λ p. eqb-false _ _ e (ap (λ x. x.code) (no_fault_answer (mark_tests size h question list) (passed (length h)) (no_fault p))))
            (eqb-false _ _ e)
            (small_met (mark_tests size h question list) mark_small (passed (length h)) (omega arith))

  -- An allowance of no fewer trials than the walk has gives one outcome, whatever it is.
  pub same_outcome : {n m : ℕ} → trials_of h question ≤ n → trials_of h question ≤ m → mark_of size h question n list ≡ mark_of size h question m list
  unfolding mark_of judged
  same_outcome {n} {m} i j = rw (le-ltb n (trials_of h question) i, le-ltb m (trials_of h question) j) refl

  -- One of fewer trials gives spent, or the refusal of any other.
  pub refused_same : {n : ℕ} (m : ℕ) → n < trials_of h question → (mark_of size h question n list).answer.code ≢ number Spent →
      mark_of size h question n list ≡ mark_of size h question m list
  unfolding mark_of judged
  refused_same {n} m i c =
      go (eqb met.code 0) (judged (length h) n list result) (judged (length h) m list result) (rw (lt-ltb n result.trials i)) c
    where
      result : Result
      result = method question (prepared h)

      go : (b : Bool) (mine other : Outcome) → mine.answer.code ≡ 11 → (cond b mine (record { answer = met; list = list })).answer.code ≢ 11 →
          cond b mine (record { answer = met; list = list }) ≡ cond b other (record { answer = met; list = list })
      go true mine other e d = absurd (d e)
      go false mine other e d = refl
