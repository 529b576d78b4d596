-- Clusters laid down whole, in a list's sequence (document 01, "Zones": a write, then its reads by start).
-- Assumes nothing.
use Rattle.std.specs.Prelude.{ℕ, ◌<◌, ◌≡◌, true, length, get_or}
use mathlib.Core.List.{List, ◌++◌, flat_map}
use Rattle.placing.specs.States.{State, is_free, laid, Ready}
use Rattle.zones.specs.Zones.{cluster_at}

-- the first i of the listed are writes, and their clusters are not placed
pub record Whole (writer list : List ℕ) (i : ℕ) (s : State) : Type 0 where
  pub inside : (k : ℕ) → k < i → get_or list k 0 < length writer
  pub write : (k : ℕ) → k < i → get_or writer (get_or list k 0) 0 ≡ get_or list k 0
  pub free : (k j : ℕ) → k < i → j < length writer → get_or writer j 0 ≡ get_or list k 0 → is_free s.placed j ≡ true

-- THE CONTRACT of the laying: the clusters are in front of what was laid
pub record Lays (writer list : List ℕ) (s r : State) : Type 0 where
  pub ready : Ready (length writer) r
  pub order : laid r ≡ flat_map (cluster_at writer) list ++ laid s
