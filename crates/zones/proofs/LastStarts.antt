-- The loop that writes the largest start of each cluster.
-- Assumes nothing.
use Prim.Native.Nat.{ℕ, ◌+◌, ◌≤◌, ◌<◌}
use mathlib.Core.Path.{◌≡◌, ◌∙◌}
use mathlib.Core.Logic.{◌⊎◌, inl, inr}
use mathlib.Core.List.{List}
use native.Mathlib.Omega.{arith}
use lib.ListN.{length, get_or, set, length-set}
use lib.Seq.{get_or-set_same, get_or-set_other}
use Rattle.positions.specs.Columns.{Cols, read_of, Sound}
use Rattle.positions.proofs.Places.{below}
use Rattle.positions.proofs.Latest.{latest_le}
use Rattle.zones.specs.Zones.{last_by, Ends, Lates}

-- sound columns have an end for each chain
pub sound_ends : (C : Cols) → Sound C → Ends C.start C.writer C.last
sound_ends C p =
    record {
      writers = p.shape.long;
      lasting = p.links.lasting ∙ p.shape.long;
      lasts = λ w l e. rw (p.links.lasts w (omega (arith, p.shape.long)) e) (omega (arith, p.shape.long, latest_le (read_of C.writer w) (length C.writer)));
    }

module _ (start writer last late : List ℕ) where
  pub lates_none : length late ≡ length start → Lates start writer last 0 late
  lates_none e = record { long = e; lates = λ w l. absurd (omega arith) }

  module _ (i : ℕ) (g : Lates start writer last i late) where
    pub lates_skip : (get_or writer i 0 ≡ i → ⊥) → Lates start writer last (i + 1) late
    lates_skip d = record { long = g.long; lates = λ w l e. go w l e (below w i) }
      where
        go : (w : ℕ) → w < i + 1 → get_or writer w 0 ≡ w → (w < i) ⊎ (i ≤ w) → get_or late w 0 ≡ last_by start last w
        go w l e (inl h) = g.lates w h e
        go w l e (inr h) = let q : w ≡ i = omega arith in absurd (d (rw q at e))

    pub lates_push : i < length start → (z : ℕ) → z ≡ last_by start last i → Lates start writer last (i + 1) (set late i z)
    lates_push h z q = record { long = length-set late i z ∙ g.long; lates = λ w l e. go w l e (below w i) }
      where
        go : (w : ℕ) → w < i + 1 → get_or writer w 0 ≡ w → (w < i) ⊎ (i ≤ w) → get_or (set late i z) w 0 ≡ last_by start last w
        go w l e (inl k) = get_or-set_other late i w z 0 (λ q. omega arith) ∙ g.lates w k e
        go w l e (inr k) =
            let j : w ≡ i = omega arith in
            let b : i < length late = omega (arith, g.long) in
            rw (j, get_or-set_same late i z 0) q
