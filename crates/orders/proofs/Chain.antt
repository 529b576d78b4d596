-- The order check as the code runs it: tests 1 to 9, then the four that look at the list.
-- Assumes nothing.
use Prim.Native.Nat.{ℕ}
use mathlib.Core.Path.{◌≡◌, refl, sym, ap, ◌∙◌}
use mathlib.Core.Logic.{◌↔◌, ◌≢◌}
use mathlib.Core.List.{List, [], ◌∷◌}
use native.Mathlib.Omega.{arith}
use lib.Dec.{eqb}
use lib.ListN.{length}
use Rattle.std.specs.Prelude.{⊤, Result, Ok}
use Rattle.history.specs.declared.Answer.{Answer}
use Rattle.history.specs.Table.{history, Alike}
use Rattle.history.specs.Answer.{Test, passed, answer_else, Ran}
use Rattle.history.specs.Screen.{tests, examined, Screened}
use Rattle.history.proofs.Refusals.{code_no_fault, no_fault_answer, met_stop, met_on, ran_none}
use Rattle.history.proofs.Screened.{tests_coded, examined_exactly}
use Rattle.orders.specs.declared.Fault.TheVariants.{Misfit}
use Rattle.atomicity.specs.Check.{order_tests, check, Accepted}
use Rattle.orders.specs.Faults.{condition, position_test, missing_test, Ordered}
use Rattle.orders.proofs.Exact.{total_holds, check_exactly}
use Rattle.orders.proofs.Same.{alike_check}

module _ (t : List ℕ) (register k : ℕ) (order : List ℕ) where
  abbrev nine : Answer
  nine = examined (length t) (history t register) (eqb k 0)

  pub screened_past : (a : Answer) → a ≡ nine → a.code ≡ 0 → Screened (length t) (history t register)
  screened_past a e z = ((examined_exactly (length t) (history t register) (eqb k 0)).0 (sym (ap (λ x. x.code) e) ∙ z)).1

  abbrev xs : List Test
  xs = tests (length t) (history t register) (eqb k 0)

  abbrev ys : List Test
  ys = order_tests t register k order

  abbrev a : Answer
  a = passed (length (history t register))

  pub check_refused : nine.code ≢ 0 → nine ≡ check t register k order
  unfolding check examined
  check_refused n = sym (met_stop xs ys a refl n)

  pub check_past : nine.code ≡ 0 → (r : Result ⊤ Answer) → Ran ys r → answer_else r nine ≡ check t register k order
  unfolding check examined
  check_past z r g =
      let c = tests_coded (length t) (history t register) (eqb k 0) in
      ap (answer_else r) (no_fault_answer xs a (code_no_fault xs c a z)) ∙ sym (g.met a) ∙ sym (met_on xs ys a c z)

  -- past tests 13 and 14 the list is a total order
  pub ordered_past : Screened (length t) (history t register) → Ran (position_test t register k order Misfit ∷ []) (Ok tt) → Ran (missing_test t register order ∷ []) (Ok tt) → Ordered t order
  unfolding condition
  ordered_past s fits whole =
      record {
        register = register;
        screened = s;
        total = total_holds t register order (ran_none (position_test t register k order Misfit) (omega arith) fits) (ran_none (missing_test t register order) (omega arith) whole);
      }

  -- what the contract says of an answer, from the one equation
  pub promises : (r : Answer) → r ≡ check t register k order →
      (r ≡ check t register k order) × (((r.code ≡ 0) ↔ Accepted k t register order) × ((u : List ℕ) → Alike t u register → r ≡ check u register k order))
  promises r e =
      let code = ap (λ x. x.code) e in
      let x = check_exactly t register order k in
      (e, ((λ z. x.0 (sym code ∙ z), λ s. code ∙ x.1 s), λ u a. e ∙ alike_check a order k))
