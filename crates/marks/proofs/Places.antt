-- The answer of the marking call is the same for every list that has a place for each of the register's rows.
-- Assumes nothing.
use Prim.Native.Nat.{ℕ, ◌≤◌}
use mathlib.Core.Path.{◌≡◌, refl}
use mathlib.Core.Bool.{Bool, true, false, cond}
use mathlib.Core.List.{List}
use lib.Dec.{ltb, eqb}
use lib.ListN.{length}
use borrow.Author.Tests.{le-ltb}
use Rattle.history.specs.declared.Op.{Op}
use Rattle.history.specs.Answer.{number, first_met, passed}
use Rattle.history.specs.declared.Code.TheVariants.{Fresh}
use Rattle.methods.specs.Prepared.{prepared}
use Rattle.methods.specs.Zones.{Decision, none, order}
use Rattle.methods.specs.Mark.{Outcome, Result, method, marked, judged, mark_tests, mark_of}

-- two choices by one test answer alike where what they choose from does
alike : (c : Bool) (x y z w : Outcome) → x.answer ≡ z.answer → y.answer ≡ w.answer → (cond c x y).answer ≡ (cond c z w).answer
alike true x y z w p q = p
alike false x y z w p q = q

module _ (h : List Op) (a b : List ℕ) where
  same_marked : (rows trials : ℕ) (d : Decision) → (marked rows trials a d).answer ≡ (marked rows trials b d).answer
  unfolding marked
  same_marked rows trials none = refl
  same_marked rows trials (order o) = refl

  same_judged : (rows allowance : ℕ) (r : Result) → (judged rows allowance a r).answer ≡ (judged rows allowance b r).answer
  unfolding judged
  same_judged rows allowance r = alike (ltb allowance r.trials) _ _ _ _ refl (same_marked rows r.trials r.decision)

  module _ (inside : length h ≤ length a) (within : length h ≤ length b) (size question : ℕ) where
    same_tests : mark_tests size h question a ≡ mark_tests size h question b
    unfolding mark_tests
    same_tests = rw (le-ltb (length a) (length h) inside, le-ltb (length b) (length h) within) refl

    pub same_answer : (allowance : ℕ) → (mark_of size h question allowance a).answer ≡ (mark_of size h question allowance b).answer
    unfolding mark_of
    same_answer allowance = rw same_tests (alike (eqb (first_met (mark_tests size h question b) (passed (length h))).code (number Fresh)) _ _ _ _ (same_judged (length h) allowance (method question (prepared h))) refl)
