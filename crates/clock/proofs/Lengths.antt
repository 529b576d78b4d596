-- How long clock texts are: from 14 bytes to 24.
-- Assumes nothing.
use Prim.Native.Nat.{ℕ, zero, suc, ◌/◌, ◌^◌, ◌≤◌, ◌<◌}
use mathlib.Core.Path.{◌≡◌, refl, ap}
use mathlib.Core.Bool.{Bool, true, false, cond}
use mathlib.Core.List.{List, [], ◌∷◌, ◌++◌}
use native.Mathlib.Nat.{pow-suc}
use native.Mathlib.Omega.{arith}
use lib.Dec.{ltb}
use lib.ListN.{length, length-append}
use borrow.Author.Tests.{ltb-false}
use Rattle.history.specs.Table.{largest_stamp}
use Rattle.text.specs.Decimal.{digit, digits, decimal}
use Rattle.text.proofs.Digits.{decimal_length}
use Rattle.std.specs.Prelude.{Option, Some, None}
use Rattle.clock.specs.Clock.{clock_of, clock_in}
use Rattle.clock.proofs.Exact.{clock_length, clock_exactly}

-- a number below 10 ^ k has at most k digits
digits_few : (f k n : ℕ) → n < 10 ^ suc k → length (digits f n) ≤ suc k
unfolding digits
digits_few zero k n h = omega arith
digits_few (suc f) k n h = go (ltb n 10) refl k h (digits_few f)
  where
    go : (b : Bool) → ltb n 10 ≡ b → (k : ℕ) → n < 10 ^ suc k → ((k m : ℕ) → m < 10 ^ suc k → length (digits f m) ≤ suc k)
        → length (cond b (digit n ∷ []) (digits f (n / 10) ++ (digit n ∷ []))) ≤ suc k
    go true e k h next = omega arith
    go false e zero h next = absurd (omega (arith, ltb-false n 10 e))
    go false e (suc k) h next =
        omega (arith, length-append (digits f (n / 10)) (digit n ∷ []), next k (n / 10) (omega (arith, pow-suc 10 (suc k))))

pub clock_short : (s : ℕ) → s ≤ largest_stamp → length (clock_of s) ≤ 24
unfolding decimal
clock_short s h = omega (arith, clock_length s, digits_few 20 10 (s / 86400000) (omega arith))

-- a text of another length says nothing
module _ (t : List ℕ) where
  read_outside : ((s : ℕ) → s ≤ largest_stamp → length t ≡ length (clock_of s) → ⊥) → None ≡ clock_in t
  read_outside other = go (clock_in t) refl
    where
      go : (n : Option ℕ) → clock_in t ≡ n → None ≡ n
      go None e = refl
      go (Some s) e = let is = (clock_exactly t s).0 e in absurd (other s is.0 (ap length is.1))

  pub read_short : length t < 14 → None ≡ clock_in t
  read_short h = read_outside (λ s small e. omega (arith, clock_length s, (decimal_length (s / 86400000)).0))

  pub read_long : 24 < length t → None ≡ clock_in t
  read_long h = read_outside (λ s small e. omega (arith, clock_short s small))
