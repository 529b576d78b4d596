-- The two forms of a stamp: a decimal number keeps its rule, and a clock text is no decimal number.
-- Assumes nothing.
use Prim.Native.Nat.{ℕ, ◌/◌, ◌≤◌}
use mathlib.Core.Path.{◌≡◌, refl, ◌∙◌}
use mathlib.Core.Bool.{Bool, true, false, cond}
use mathlib.Core.List.{List, [], ◌∷◌, ◌++◌}
use native.Mathlib.Omega.{arith}
use Rattle.lists.specs.Lists.{all}
use Rattle.history.specs.Table.{largest_stamp}
use Rattle.text.specs.Decimal.{decimal}
use Rattle.std.specs.Prelude.{Option, Some, None}
use Rattle.parsing.specs.Numbers.{is_digit, number_of, number_in, is_number}
use Rattle.clock.specs.Clock.{clock_of, leading_zero, days_in, field_in, with_field, said_at, clock_in, stamp_in}
use Rattle.clock.proofs.Days.{number_is}
use Rattle.clock.proofs.Exact.{clock_exactly}

module _ (t : List ℕ) where
  pub stamp_number : (x : ℕ) → number_of t ≡ Some x → stamp_in t ≡ Some x
  unfolding stamp_in is_number
  stamp_number x e = rw e

  pub stamp_clock : number_of t ≡ None → stamp_in t ≡ clock_in t
  unfolding stamp_in is_number
  stamp_clock e = rw e

-- an empty text says no stamp
pub stamp_none : stamp_in [] ≡ None
unfolding stamp_in clock_in said_at with_field field_in days_in leading_zero number_in number_of is_number
stamp_none = refl

-- a byte that is no digit
other_digits : (l : List ℕ) (c : ℕ) (r : List ℕ) → is_digit c ≡ false → all is_digit (l ++ (c ∷ r)) ≡ false
unfolding all
other_digits [] c r e = rw e
other_digits (b ∷ l) c r e = go (is_digit b) (other_digits l c r e)
  where
    go : (d : Bool) → all is_digit (l ++ (c ∷ r)) ≡ false → cond d (all is_digit (l ++ (c ∷ r))) false ≡ false
    go true h = h
    go false h = refl

clock_digits : (s : ℕ) → all is_digit (clock_of s) ≡ false
unfolding clock_of is_digit
clock_digits s = other_digits (decimal (s / 86400000)) 58 _ refl

clock_number : (s : ℕ) → number_of (clock_of s) ≡ None
clock_number s = go (number_of (clock_of s)) refl
  where
    go : (n : Option ℕ) → number_of (clock_of s) ≡ n → n ≡ None
    go None e = refl
    go (Some x) e = let d = (number_is (clock_of s) x e).each in let f = clock_digits s in let z : ◌≡◌ {A = ℕ} 0 1 = cc in absurd (omega arith)

-- A stamp's clock text says the stamp in a cell that takes either form.
pub stamp_text : (s : ℕ) → s ≤ largest_stamp → stamp_in (clock_of s) ≡ Some s
stamp_text s h = stamp_clock (clock_of s) (clock_number s) ∙ (clock_exactly (clock_of s) s).1 (h, refl)
