-- The digits of a number, one by one, and how many there are.
-- Assumes nothing.
use Prim.Native.Nat.{ℕ, zero, suc, ◌+◌, ◌-◌, ◌/◌, ◌≤◌, ◌<◌}
use mathlib.Core.Path.{◌≡◌, ap, ◌∙◌}
use mathlib.Core.Bool.{Bool, true, false, cond}
use mathlib.Core.List.{List, [], ◌∷◌, ◌++◌}
use native.Mathlib.Omega.{arith}
use lib.Dec.{ltb}
use lib.ListN.{length, length-append}
use borrow.Author.Tests.{lt-ltb, le-ltb}
use Rattle.text.specs.Decimal.{digit, digits, decimal}

pub digits_none : (f n : ℕ) → f ≡ 0 → digits f n ≡ []
unfolding digits
digits_none f n e = rw e

digits_some : (f n : ℕ) → 0 < f → digits f n ≡ cond (ltb n 10) (digit n ∷ []) (digits (f - 1) (n / 10) ++ (digit n ∷ []))
unfolding digits
digits_some f n h = go f (f - 1) (omega arith)
  where
    go : (f g : ℕ) → f ≡ suc g → digits f n ≡ cond (ltb n 10) (digit n ∷ []) (digits g (n / 10) ++ (digit n ∷ []))
    go f g e = rw e

pub digits_last : (f n : ℕ) → 0 < f → n < 10 → digits f n ≡ digit n ∷ []
digits_last f n h l = digits_some f n h ∙ rw (lt-ltb n 10 l)

pub digits_more : (f n : ℕ) → 0 < f → 10 ≤ n → digits f n ≡ digits (f - 1) (n / 10) ++ (digit n ∷ [])
digits_more f n h l = digits_some f n h ∙ rw (le-ltb n 10 l)

pub digits_more_length : (f n : ℕ) → 0 < f → 10 ≤ n → length (digits f n) ≡ length (digits (f - 1) (n / 10)) + 1
digits_more_length f n h l = ap length (digits_more f n h l) ∙ length-append (digits (f - 1) (n / 10)) (digit n ∷ [])

pub digits_length : (f n : ℕ) → length (digits f n) ≤ f
unfolding digits
digits_length zero n = omega arith
digits_length (suc f) n = go (ltb n 10) (digits f (n / 10)) (digits_length f (n / 10))
  where
    go : (b : Bool) (l : List ℕ) → length l ≤ f → length (cond b (digit n ∷ []) (l ++ (digit n ∷ []))) ≤ suc f
    go true l h = omega arith
    go false l h = rw length-append (omega arith)

digits_length_some : (f n : ℕ) → 1 ≤ length (digits (suc f) n)
unfolding digits
digits_length_some f n = go (ltb n 10) (digits f (n / 10))
  where
    go : (b : Bool) (l : List ℕ) → 1 ≤ length (cond b (digit n ∷ []) (l ++ (digit n ∷ [])))
    go true l = omega arith
    go false l = rw length-append (omega arith)

-- A number of 64 bits has one to twenty digits.
pub decimal_length : (n : ℕ) → (1 ≤ length (decimal n)) × (length (decimal n) ≤ 20)
unfolding decimal
decimal_length n = (digits_length_some 19 n, digits_length 20 n)
