-- The loop that seeks the first element that passes a test.
-- Assumes nothing.
use Prim.Native.Nat.{ℕ, suc, ◌+◌, ◌≤◌, ◌<◌}
use mathlib.Core.Path.{◌≡◌}
use mathlib.Core.Bool.{Bool, true, false}
use mathlib.Core.List.{List}
use native.Mathlib.Omega.{arith}
use lib.ListN.{length, get_or, drop}
use lib.Seq.{drop-cons, drop-length}
use Rattle.writers.specs.Writers.{seek}

module _ (P : ℕ → Bool) (l : List ℕ) where
  -- the first i do not pass
  pub record Sought (i : ℕ) : Type 0 where
    pub within : i ≤ length l
    pub rest : seek P l ≡ i + seek P (drop i l)

  pub sought_none : Sought 0
  sought_none = record { within = omega arith; rest = omega arith }

  pub sought_end : (i : ℕ) → length l ≤ i → Sought i → i ≡ seek P l
  unfolding seek
  sought_end i h g =
      let e : i ≡ length l = omega (arith, g.within) in
      let d : seek P (drop i l) ≡ 0 = rw (e, drop-length l) in
      omega (arith, g.rest)

  module _ (i : ℕ) (h : i < length l) (g : Sought i) where
    pub sought_hit : P (get_or l i 0) ≡ true → i ≡ seek P l
    unfolding seek
    sought_hit e =
        let d : seek P (drop i l) ≡ 0 = rw (drop-cons l i 0 h, e) in
        omega (arith, g.rest)

    pub sought_more : P (get_or l i 0) ≡ false → Sought (i + 1)
    unfolding seek
    sought_more e =
        let d : seek P (drop i l) ≡ suc (seek P (drop (suc i) l)) = rw (drop-cons l i 0 h, e) in
        let k : suc i ≡ i + 1 = omega arith in
        record { within = omega arith; rest = rw (← k) (omega (arith, g.rest)) }
