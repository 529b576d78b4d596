-- The loop over the rows that show no condition.
-- Assumes nothing.
use Prim.Native.Nat.{ℕ, ◌+◌, ◌≤◌, ◌<◌}
use mathlib.Core.Path.{◌≡◌}
use mathlib.Core.Logic.{◌⊎◌, inl, inr}
use mathlib.Core.List.{List}
use native.Mathlib.Nat.{eq-or-lt_of_le}
use native.Mathlib.Omega.{arith}
use lib.ListN.{length}
use Rattle.conditions.specs.Tests.{Quiet}

-- the first i rows show none
pub record Silence (t rows writer : List ℕ) (i : ℕ) : Type 0 where
  pub within : i ≤ length rows
  pub quiet : (j : ℕ) → j < i → Quiet t rows writer j

module _ (t rows writer : List ℕ) where
  pub silence_none : Silence t rows writer 0
  silence_none = record { within = omega arith; quiet = λ j l. absurd (omega arith) }

  pub silence_more : (i : ℕ) → i < length rows → Silence t rows writer i → Quiet t rows writer i → Silence t rows writer (i + 1)
  silence_more i l g q = record { within = omega arith; quiet = λ j k. go j (eq-or-lt_of_le (omega arith)) }
    where
      go : (j : ℕ) → (j ≡ i) ⊎ (j < i) → Quiet t rows writer j
      go j (inl e) = rw e q
      go j (inr k) = g.quiet j k
