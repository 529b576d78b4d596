-- What the code of a mark says where the list has 1,024 places and the allowance is ample; and that 10 never comes.
-- Assumes nothing.
use Prim.Native.Nat.{ℕ, ◌<◌, ◌≤◌}
use mathlib.Core.Path.{◌≡◌, refl, sym, ap, ◌∙◌}
use mathlib.Core.Logic.{◌⊎◌, inl, inr, ◌≢◌}
use mathlib.Core.Bool.{Bool, true, false, cond}
use mathlib.Core.List.{List, [], ◌∷◌}
use native.Mathlib.Omega.{arith}
use lib.Dec.{ltb, eqb}
use lib.ListN.{length, replicate, length-replicate}
use borrow.Author.Tests.{le-ltb, ltb-true, ltb-false}
use Rattle.std.specs.Prelude.{Option, Some, None}
use Rattle.lists.proofs.Counts.{keep_length}
use Rattle.history.specs.declared.Op.{Op}
use Rattle.history.specs.declared.Answer.{Answer}
use Rattle.history.specs.Table.{history, row_count, largest_count, is_write}
use Rattle.history.specs.Answer.{number, Test, test, if_so, refused_or, first_met, passed}
use Rattle.history.specs.declared.Code.TheVariants.{Spent, ShortList}
use Rattle.history.specs.Screen.{tests, Screened}
use Rattle.history.proofs.Refusals.{NoFault, met_append}
use Rattle.history.proofs.Screened.{no_fault_screened}
use Rattle.history.proofs.Rows.{rows_few}
use Rattle.methods.specs.Prepared.{prepared}
use Rattle.methods.specs.Zones.{Decision, none, order}
use Rattle.methods.specs.Mark.{Outcome, no_question, method, answered, marked, judged, mark_tests, mark_of, mark, row_numbers}
use Rattle.preparation.proofs.Rows.{history_rows, orders_of_rows}
use Rattle.meaning.specs.Marked.{Passes, trials_of, Marked, is_refused, is_spent, is_stale, is_fresh}
use Rattle.meaning.specs.Demand.{NoOrder}
use Rattle.meaning.proofs.Methods.{always_enough}
use Rattle.meaning.proofs.Outcomes.{marked?}
use Rattle.marks.proofs.Places.{same_answer}
use Rattle.marks.specs.Marks.{answer_to, Ample, Askable, Said}

-- the list inside
abbrev pub places : List ℕ
places = replicate largest_count 0

-- Tests whose codes are not c: where they give c all the same, none of their conditions is met.
abbrev Other : ℕ → List Test → Type 0
Other c [] = Unit {0}
Other c (x ∷ xs) = (number x.code ≢ c) × Other c xs

other_no_fault : (c : ℕ) (xs : List Test) → Other c xs → (a : Answer) → (first_met xs a).code ≡ c → NoFault xs × (a.code ≡ c)
unfolding first_met
other_no_fault c [] h a e = (tt, e)
other_no_fault c (x ∷ xs) h a e = go x.fault refl e (other_no_fault c xs h.1 a)
  where
    go : (f : Option ℕ) → x.fault ≡ f → (refused_or x.code f (first_met xs a)).code ≡ c → ((first_met xs a).code ≡ c → NoFault xs × (a.code ≡ c)) →
        ((x.fault ≡ None) × NoFault xs) × (a.code ≡ c)
    go (Some row) same z rest = absurd (h.0 z)
    go None same z rest = let r = rest z in ((same, r.0), r.1)

module _ (t : List ℕ) (register question : ℕ) where
  abbrev h : List Op
  h = history t register

  -- the list has a place for each row of a screened register
  enough_places : Screened (length t) h → length h ≤ length places
  enough_places s = omega (arith, s.few, rows_few t register, length-replicate {A = ℕ} largest_count 0)

  passes : Askable t register question → Passes (length t) h question places
  passes a = record { screened = a.screened; asked = a.asked; room = enough_places a.screened }

  askable : Passes (length t) h question places → Askable t register question
  askable p = record { screened = p.screened; asked = p.asked }

  nine_other : Other 10 (tests (length t) h (no_question question))
  unfolding tests
  nine_other = omega arith

  -- 10 never comes
  never_short : (first_met (mark_tests (length t) h question places) (passed (length h))).code ≢ 10
  unfolding mark_tests first_met
  never_short e =
      let xs = tests (length t) h (no_question question) in
      let ten = test ShortList (if_so (ltb (length places) (length h))) ∷ [] in
      let m = other_no_fault 10 xs nine_other (first_met ten (passed (length h))) (sym (ap (λ x. x.code) (met_append xs ten (passed (length h)))) ∙ e) in
      let s = no_fault_screened (length t) h (no_question question) m.0 in
      let z : ◌≡◌ {A = ℕ} 0 10 = sym (rw (le-ltb (length places) (length h) (enough_places s)) refl) ∙ m.1 in
      omega (arith, z)

  module _ (allowance : ℕ) where
    -- the walk has no more trials than an ample allowance
    within : Passes (length t) h question places → Ample question allowance → trials_of h question ≤ allowance
    unfolding method
    within p f = go p.asked
      where
        go : (question ≡ 1) ⊎ (question ≡ 2) ⊎ (question ≡ 3) → trials_of h question ≤ allowance
        go (inl e) = rw e (omega arith)
        go (inr (inl e)) =
            omega (arith, f e, always_enough p.screened (history_rows t register) question, keep_length is_write h, enough_places p.screened, length-replicate {A = ℕ} largest_count 0)
        go (inr (inr e)) = rw e (omega arith)

    -- what each outcome says
    outcome_said : (out : Outcome) → Ample question allowance → Marked (length t) h question allowance places out → Said t register question out.answer.code
    outcome_said out f (is_refused {a = a} n z l) =
        record {
          decided = (λ c. absurd (neither c), λ k. absurd (n (passes k)));
          fresh_exactly = (λ c. absurd (z c), λ k. absurd (n (passes k.0)));
          stale_exactly = (λ c. absurd (l.1 c), λ k. absurd (n (passes k.0)));
          unspent = l.0;
        }
      where
        neither : (a.code ≡ 0) ⊎ (a.code ≡ 12) → ⊥
        neither (inl c) = z c
        neither (inr c) = l.1 c
    outcome_said out f (is_spent p l) = absurd (omega (arith, l, within p f))
    outcome_said out f (is_stale p l n) =
        record {
          decided = (λ c. askable p, λ k. inr refl);
          fresh_exactly = (λ c. absurd (omega (arith, c)), λ k. absurd (no_order k.1.0 k.1.1));
          stale_exactly = (λ c. (askable p, no_order), λ k. refl);
          unspent = λ c. omega (arith, c);
        }
      where
        no_order : NoOrder t register question
        no_order l a = n _ ((orders_of_rows t register _ l).1 p.screened a).2
    outcome_said out f (is_fresh {o = o} p l i) =
        record {
          decided = (λ c. askable p, λ k. inl refl);
          fresh_exactly = (λ c. (askable p, (row_numbers o, (orders_of_rows t register _ _).0 (_, refl, i))), λ k. refl);
          stale_exactly = (λ c. absurd (omega (arith, c)), λ k. absurd (k.1 (row_numbers o) ((orders_of_rows t register _ _).0 (_, refl, i))));
          unspent = λ c. omega (arith, c);
        }

    -- WHAT THE MARK SAYS
    pub answer_said : Ample question allowance → Said t register question (answer_to t register question allowance).code
    unfolding answer_to mark
    answer_said f = outcome_said _ f (marked? (length t) h question places (history_rows t register) allowance)

    -- THE LIST IS NEVER TOO SHORT
    pub never_ten : (answer_to t register question allowance).code ≢ number ShortList
    unfolding answer_to mark mark_of judged marked
    never_ten = go (eqb met.code 0) (ltb allowance (trials_of h question)) (method question (prepared h)).decision
      where
        met : Answer
        met = first_met (mark_tests (length t) h question places) (passed (length h))

        go : (b c : Bool) (d : Decision) →
            (cond b (cond c (record { answer = answered Spent 0 allowance; list = places }) (marked (length h) (trials_of h question) places d)) (record { answer = met; list = places })).answer.code ≢ 10
        go true true d e = omega (arith, e)
        go true false none e = omega (arith, e)
        go true false (order o) e = omega (arith, e)
        go false c d e = never_short e

    -- THE CONTRACT, from the answer
    pub said_of : (a : Answer) → a ≡ answer_to t register question allowance →
        (a ≡ answer_to t register question allowance) × ((Ample question allowance → Said t register question a.code) × (a.code ≢ number ShortList))
    said_of a i = (i, (λ f. rw i (answer_said f), λ z. never_ten (sym (ap (λ x. x.code) i) ∙ z)))

    -- the answer with m places: 1,024, or fewer where the table has no more rows
    pub answer_sized : (m : ℕ) → m ≤ largest_count → (m < largest_count → row_count t ≤ m) → (a : Answer) (after : List ℕ) →
        ◌≡◌ {A = Outcome} (record { answer = a; list = after }) (mark t register question allowance (replicate m 0)) →
        a ≡ answer_to t register question allowance
    unfolding answer_to mark
    answer_sized m l few a after e = ap (λ (o : Outcome). o.answer) e ∙ go (ltb m largest_count) refl
      where
        go : (b : Bool) → ltb m largest_count ≡ b →
            (mark_of (length t) h question allowance (replicate m 0)).answer ≡ (mark_of (length t) h question allowance places).answer
        go true e =
            let f : length h ≤ length (replicate {A = ℕ} m 0) = omega (arith, few (ltb-true _ _ e), rows_few t register, length-replicate {A = ℕ} m 0) in
            let g : length h ≤ length places = omega (arith, few (ltb-true _ _ e), rows_few t register, length-replicate {A = ℕ} largest_count 0) in
            same_answer h (replicate m 0) places f g (length t) question allowance
        go false e = let same : m ≡ largest_count = omega (arith, ltb-false _ _ e) in rw same refl
