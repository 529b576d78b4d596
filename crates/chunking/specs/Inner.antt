-- The backward zones inside the runs, found in one pass over both by low end (document 01, "FZF").
-- Assumes nothing.
use Rattle.std.specs.Prelude.{ℕ, ◌≤◌, ◌<◌, ◌≡◌, length, get_or, take}
use mathlib.Core.List.{List, Memᴰ as In}
use Rattle.lists.specs.Lists.{keep}
use Rattle.lists.specs.Pairs.{Pairs}
use Rattle.methods.specs.Zones.{low}
use Rattle.positions.specs.Places.{and}
use Rattle.placing.specs.States.{is_free}
use Rattle.zones.specs.Zones.{zone_by, Inside}
use Rattle.freeing.specs.Marks.{unlisted}
use Rattle.chunking.specs.Chunks.{lies, dangles_by}
use Rattle.chunking.specs.declared.Enclosed.{Enclosed}

-- the list is by low end
abbrev pub Rises : List ℕ → List ℕ → List ℕ → Type 0
Rises finish late list = Pairs (λ x y. low (zone_by finish late x) ≤ low (zone_by finish late y)) list

-- the first i of the list have a low end of at most the limit
pub record Behind (finish late list : List ℕ) (i limit : ℕ) : Type 0 where
  pub within : i ≤ length list
  pub lows : (k : ℕ) → k < i → low (zone_by finish late (get_or list k 0)) ≤ limit

-- from i on those before r have a lower low end than top, and what stands at r has not
pub record Reaches (finish late list : List ℕ) (i top r : ℕ) : Type 0 where
  pub from : i ≤ r
  pub to : r ≤ length list
  pub lower : (k : ℕ) → i ≤ k → k < r → low (zone_by finish late (get_or list k 0)) < top
  pub stop : r < length list → top ≤ low (zone_by finish late (get_or list r 0))

-- the first of `out` are those that lie between bottom and top, and those before `next` lie too low for what is above both
pub record Encloses (finish late list : List ℕ) (bottom top : ℕ) (out : List ℕ) (r : Enclosed) : Type 0 where
  pub few : r.count ≤ length list
  pub written : take r.count out ≡ keep (lies finish late bottom top) list
  pub behind : (limit : ℕ) → bottom ≤ limit → top ≤ limit → Behind finish late list r.next limit

-- places of the columns for the forward and the backward writes, and the backward ones by low end
pub record Sides (finish late forwards backwards : List ℕ) : Type 0 where
  pub forth : Inside finish forwards
  pub back : Inside finish backwards
  pub rises : Rises finish late backwards

-- the listed places are marked, and the others as before
abbrev pub Marked : List ℕ → List ℕ → List ℕ → Type 0
Marked list old marks = (j : ℕ) → j < length old → is_free marks j ≡ and (is_free old) (unlisted list) j

-- of the backward writes those that lie inside no run are not marked
abbrev pub Hangs : List ℕ → List ℕ → List ℕ → List ℕ → List ℕ → Type 0
Hangs finish late forwards backwards marks = (w : ℕ) → In w backwards → is_free marks w ≡ dangles_by finish late forwards w
