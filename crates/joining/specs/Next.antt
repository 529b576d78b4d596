-- Whether anything is left to join, and whether a chunk or a dangling cluster comes next, by low end (document 01, "FZF").
-- Assumes nothing.
use Rattle.std.specs.Prelude.{ℕ, ◌≤◌, ◌<◌, ◌≡◌, Bool, true, false, cond, List, length, get_or, leb}
use Rattle.methods.specs.Zones.{low}
use Rattle.zones.specs.Zones.{zone_by}
use Rattle.chunking.specs.Chunks.{dangles_by}

-- there is a chunk at a, and the cluster at j, if any, has no lower low end
unfoldable pub chunk_first : List ℕ → List ℕ → List ℕ → List ℕ → ℕ → ℕ → Bool
chunk_first finish late forwards backwards a j =
    cond (leb (length forwards) a) false
    (cond (leb (length backwards) j) true (leb (low (zone_by finish late (get_or forwards a 0))) (low (zone_by finish late (get_or backwards j 0)))))

-- nothing is left from a and j on
unfoldable pub over_at : ℕ → ℕ → ℕ → ℕ → Bool
over_at f b a j = cond (leb f a) (leb b j) false

-- something is left, and the cluster at j, if any, dangles
pub record Waiting (finish late F B : List ℕ) (a j : ℕ) : Type 0 where
  pub forth : a ≤ length F
  pub back : j ≤ length B
  pub some : length F ≤ a → j < length B
  pub hangs : j < length B → dangles_by finish late F (get_or B j 0) ≡ true
