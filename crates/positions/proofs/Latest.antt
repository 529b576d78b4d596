-- Laws of `latest Q i`, one more than the last position below i at which Q holds.
-- Assumes nothing.
use Prim.Native.Nat.{ℕ, zero, suc, ◌-◌, ◌≤◌, ◌<◌}
use mathlib.Core.Path.{◌≡◌, refl}
use mathlib.Core.Bool.{Bool, true, false, cond}
use mathlib.Core.Logic.{◌⊎◌, inl, inr}
use native.Mathlib.Omega.{arith}
use Rattle.positions.specs.Places.{latest}
use Rattle.positions.proofs.Places.{below}

module _ (Q : ℕ → Bool) where
  pub latest_le : (i : ℕ) → latest Q i ≤ i
  unfolding latest
  latest_le zero = omega arith
  latest_le (suc i) = go (Q i) (latest_le i)
    where
      go : (b : Bool) → latest Q i ≤ i → cond b (suc i) (latest Q i) ≤ suc i
      go true h = omega arith
      go false h = omega arith

  pub latest_none : (i j : ℕ) → latest Q i ≤ j → j < i → Q j ≡ false
  unfolding latest
  latest_none zero j h k = absurd (omega arith)
  latest_none (suc i) j h k = go (Q i) refl h (below j i) (latest_none i j)
    where
      go : (b : Bool) → Q i ≡ b → cond b (suc i) (latest Q i) ≤ j → (j < i) ⊎ (i ≤ j) → (latest Q i ≤ j → j < i → Q j ≡ false) → Q j ≡ false
      go true e l m ih = absurd (omega arith)
      go false e l (inl m) ih = ih l m
      go false e l (inr m) ih = let q : j ≡ i = omega arith in rw q e

  pub latest_at : (i : ℕ) → 0 < latest Q i → Q (latest Q i - 1) ≡ true
  unfolding latest
  latest_at zero h = absurd (omega arith)
  latest_at (suc i) h = go (Q i) refl h (latest_at i)
    where
      go : (b : Bool) → Q i ≡ b → 0 < cond b (suc i) (latest Q i) → (0 < latest Q i → Q (latest Q i - 1) ≡ true) → Q (cond b (suc i) (latest Q i) - 1) ≡ true
      go true e l ih = let q : suc i - 1 ≡ i = omega arith in rw q e
      go false e l ih = ih l
