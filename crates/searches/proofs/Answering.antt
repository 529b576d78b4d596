-- From what a search found to the outcome.
-- Assumes nothing.
use Prim.Native.Nat.{ℕ, zero, suc, ◌-◌, ◌≤◌}
use mathlib.Core.Path.{◌≡◌, refl, sym, ap, ◌∙◌}
use mathlib.Core.List.{List, [], ◌∷◌, ◌++◌, map}
use native.Mathlib.Omega.{arith}
use borrow.Author.Tests.{lt-ltb, le-ltb}
use lib.ListN.{length, get_or, drop, length-map, length-drop}
use lib.Seq.{length-take-le}
use Rattle.history.specs.declared.Op.{Op}
use Rattle.history.specs.declared.Code.TheVariants.{Fresh as FreshCode, Spent as SpentCode, Stale as StaleCode}
use Rattle.methods.specs.Mark.{Result, row_numbers, written, answered, marked, judged}
use Rattle.positions.specs.Columns.{Cols, nothing, ops, Of}
use Rattle.placing.specs.declared.Search.TheVariants.{Stale, Fresh, Spent}
use Rattle.placing.specs.Searched.{between, Searched, is_stale, is_fresh, is_spent}
use Rattle.searches.specs.Replies.{outcome}

-- the positions at some places are as many as these
pub between_long : {from to : ℕ} (places : List ℕ) → from ≤ to → to ≤ length places → length (between places from to) ≡ to - from
between_long {from} {to} places a b = length-take-le (to - from) (drop from places) (omega (arith, length-drop from places))

-- the row of an operation, also where there is none
row_at : (H : List Op) (j : ℕ) → get_or (row_numbers H) j 0 ≡ (get_or H j nothing).row
row_at [] zero = refl
row_at [] (suc j) = refl
row_at (x ∷ H) zero = refl
row_at (x ∷ H) (suc j) = row_at H j

-- the rows of an order, from its positions
order_rows : (H : List Op) (l : List ℕ) → map (λ j. get_or (row_numbers H) j 0) l ≡ row_numbers (ops H l)
order_rows H [] = refl
order_rows H (j ∷ l) =
    ap (λ (i : ℕ). i ∷ map (λ j. get_or (row_numbers H) j 0) l) (row_at H j) ∙ ap (λ (k : List ℕ). (get_or H j nothing).row ∷ k) (order_rows H l)

module _ {C : Cols} {allowance : ℕ} {m : List Op → Result} {H : List Op} (o : Of C H) (list : List ℕ) (rows : ℕ) (places : List ℕ) where
  -- no order
  pub judged_stale : (t : ℕ) → Searched C allowance m places (Stale t) → outcome (answered StaleCode rows t) list ≡ judged rows allowance list (m H)
  unfolding judged marked
  judged_stale t (is_stale l s) = rw (s H o, le-ltb allowance t l) refl

  -- more trials than are allowed
  pub judged_spent : Searched C allowance m places Spent → outcome (answered SpentCode 0 allowance) list ≡ judged rows allowance list (m H)
  unfolding judged
  judged_spent (is_spent s) = rw (lt-ltb allowance (m H).trials (s H o)) refl

  -- an order, whose rows are at the front of the list
  pub judged_fresh : (from to t : ℕ) → Searched C allowance m places (Fresh from to t) → (numbers xs : List ℕ) → numbers ≡ row_numbers H →
      xs ≡ map (λ j. get_or numbers j 0) (between places from to) → outcome (answered FreshCode rows t) (xs ++ drop (to - from) list) ≡ judged rows allowance list (m H)
  unfolding judged marked
  judged_fresh from to t (is_fresh l a b s) numbers xs n d = rw (s H o, le-ltb allowance t l) (ap (λ (k : List ℕ). outcome (answered FreshCode rows t) k) whole)
    where
      are : xs ≡ row_numbers (ops H (between places from to))
      are = d ∙ ap (λ (k : List ℕ). map (λ j. get_or k j 0) (between places from to)) n ∙ order_rows H (between places from to)

      long : to - from ≡ length (row_numbers (ops H (between places from to)))
      long = sym (length-map (ops H (between places from to)) (λ x. x.row) ∙ length-map (between places from to) _ ∙ between_long places a b)

      whole : xs ++ drop (to - from) list ≡ written (row_numbers (ops H (between places from to))) list
      whole = ap (λ (k : List ℕ). k ++ drop (to - from) list) are ∙ ap (λ (k : ℕ). row_numbers (ops H (between places from to)) ++ drop k list) long
