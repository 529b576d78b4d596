-- Only the register's rows count: two tables alike get the same answer from the order check.
-- Assumes nothing.
use Prim.Native.Nat.{ℕ, suc, ◌-◌, ◌<◌}
use mathlib.Core.Path.{◌≡◌, refl, ap, ap₂}
use mathlib.Core.Bool.{Bool, cond, not, ◌&&◌, ◌||◌}
use mathlib.Core.List.{List, Memᴰ as In}
use native.Mathlib.Omega.{arith}
use lib.Dec.{ltb, eqb}
use lib.ListN.{length, get_or, take, drop}
use Rattle.std.specs.Prelude.{Option, Some, None}
use Rattle.lists.specs.Lists.{up_to, any}
use Rattle.lists.proofs.Tests.{told_as, told_same}
use Rattle.lists.proofs.Members.{any_ext, first_ext, keep_ext}
use Rattle.lists.proofs.Ranges.{in_below}
use Rattle.lists.proofs.Cover.{in_at, in_take, in_drop}
use Rattle.history.specs.declared.Answer.{Answer}
use Rattle.history.specs.Table.{history, op_at, is_write, is_read, precedes, dictates, Alike}
use Rattle.history.specs.Answer.{refused_or, first_met, passed}
use Rattle.history.specs.declared.Code.TheVariants.{MisfitList, OutOfTime, TooFarBehind}
use Rattle.history.specs.Screen.{tests}
use Rattle.history.proofs.Rows.{same_op, same_rows, same_history}
use Rattle.history.proofs.Refusals.{met_append}
use Rattle.atomicity.specs.Order.{placed, writes_between}
use Rattle.atomicity.specs.Check.{same_row, precedes_at, near_at, is_row, misfits, late, too_far, lowest_at, missing, order_tests, check}
use Rattle.orders.proofs.Positions.{told_row}
use Rattle.orders.proofs.Exact.{rows_hold}

module _ {t u : List ℕ} {register : ℕ} (a : Alike t u register) (order : List ℕ) where
  same_row_lem : (i : ℕ) → is_row t register i ≡ is_row u register i
  same_row_lem i = told_same (told_row t register i) (told_as (λ r. a.no_more i r) (λ r. (a.kept i r).0) (told_row u register i))

  same_misfits : (p : ℕ) → misfits t register order p ≡ misfits u register order p
  unfolding misfits
  same_misfits p = ap (λ b. not b || any (same_row order p) (up_to p)) (same_row_lem (get_or order p 0))

  same_missing : missing t register order ≡ missing u register order
  unfolding missing
  same_missing = ap (λ rs. cond (ltb (length order) (length rs)) (Some (length order)) None) (same_rows a)

  -- Past test 13 every position holds a row of the register, and the tables agree there.
  module _ (fits : lowest_at (misfits t register order) order ≡ None) where
    same_placed : (p : ℕ) → p < length order → placed t order p ≡ placed u order p
    same_placed p h = same_op a (get_or order p 0) (rows_hold t register order fits p h)

    member : (i : ℕ) → In i order → op_at t i ≡ op_at u i
    member i m = let w = in_at m in rw (← w.2) (same_placed w.0 w.1)

    same_between : (q p : ℕ) → writes_between t order q p ≡ writes_between u order q p
    unfolding writes_between
    same_between q p =
        ap length
        (keep_ext (λ i. is_write (op_at t i)) (λ i. is_write (op_at u i)) (take (p - suc q) (drop (suc q) order))
        (λ i m. ap is_write (member i (in_drop (suc q) order (in_take (p - suc q) (drop (suc q) order) m)))))

    same_late : (p : ℕ) → p < length order → late t order p ≡ late u order p
    unfolding late precedes_at
    same_late p h =
        any_ext (precedes_at t order p) (precedes_at u order p) (up_to p)
        (λ q m. ap₂ precedes (same_placed p h) (same_placed q (omega (arith, in_below p m))))

    same_far : (k p : ℕ) → p < length order → too_far k t order p ≡ too_far k u order p
    unfolding too_far near_at
    same_far k p h = ap₂ (λ b c. b && not c) (ap is_read (same_placed p h)) (any_ext (near_at k t order p) (near_at k u order p) (up_to p) near)
      where
        near : (q : ℕ) → In q (up_to p) → (dictates (placed t order q) (placed t order p) && ltb (writes_between t order q p) k) ≡ (dictates (placed u order q) (placed u order p) && ltb (writes_between u order q p) k)
        near q m =
            let l : q < length order = omega (arith, in_below p m) in
            ap₂ (λ b n. b && ltb n k) (ap₂ dictates (same_placed q l) (same_placed p h)) (same_between q p)

    same_lowest : (f g : ℕ → Bool) → ((p : ℕ) → p < length order → f p ≡ g p) → lowest_at f order ≡ lowest_at g order
    same_lowest f g h = first_ext f g (λ p. p) (up_to (length order)) (λ p m. h p (in_below (length order) m))

  -- what tests 13 (missing rows), 14 and 15 make of the answer x
  abbrev Later : List ℕ → ℕ → Answer → Answer
  Later v k x =
      refused_or MisfitList (missing v register order)
      (refused_or OutOfTime (lowest_at (late v order) order) (refused_or TooFarBehind (lowest_at (too_far k v order) order) x))

  same_later : (k : ℕ) (x : Answer) → lowest_at (misfits t register order) order ≡ None → Later t k x ≡ Later u k x
  same_later k x fits =
      let l : lowest_at (late t order) order ≡ lowest_at (late u order) order = same_lowest fits (late t order) (late u order) (same_late fits) in
      let f : lowest_at (too_far k t order) order ≡ lowest_at (too_far k u order) order = same_lowest fits (too_far k t order) (too_far k u order) (same_far fits k) in
      rw (same_missing, l, f)

  same_tests : (k : ℕ) (x : Answer) → first_met (order_tests t register k order) x ≡ first_met (order_tests u register k order) x
  unfolding order_tests first_met
  same_tests k x = rw (← same_first) (go (lowest_at (misfits t register order) order) refl)
    where
      same_first : lowest_at (misfits t register order) order ≡ lowest_at (misfits u register order) order
      same_first = first_ext (misfits t register order) (misfits u register order) (λ p. p) (up_to (length order)) (λ p m. same_misfits p)

      go : (f : Option ℕ) → lowest_at (misfits t register order) order ≡ f → refused_or MisfitList f (Later t k x) ≡ refused_or MisfitList f (Later u k x)
      go (Some p) e = refl
      go None e = same_later k x e

  pub alike_check : (k : ℕ) → check t register k order ≡ check u register k order
  unfolding check
  alike_check k =
      let nine = tests (length u) (history u register) (eqb k 0) in
      let rows = passed (length (history u register)) in
      rw (a.size, same_history a, met_append nine (order_tests t register k order) rows, met_append nine (order_tests u register k order) rows, same_tests k rows)
