-- The zone of a write, by the columns (document 01, "Zones"): its own finish, which is its cluster's smallest, and the column `late`, which has
-- the largest start of its cluster.
-- Assumes nothing.
use Rattle.std.specs.Prelude.{ℕ, ◌-◌, ◌≤◌, ◌<◌, max, ◌≡◌, Bool, cond, List, ◌∷◌, length, get_or, leb, ltb}
use Rattle.lists.specs.Sorts.{sort}
use Rattle.methods.specs.declared.Zone.{Zone}
use Rattle.methods.specs.Zones.{low, zone_of}
use Rattle.positions.specs.Places.{upto}
use Rattle.positions.specs.Columns.{Cols, size, wr, is_own, read_of, op, Says}

-- the largest start of w's cluster, where the last of its reads is at k - 1, and k is 0 where it has none
abbrev pub last_of : List ℕ → ℕ → ℕ → ℕ
last_of start w k = cond (ltb k 1) (get_or start w 0) (max (get_or start w 0) (get_or start (k - 1) 0))

abbrev pub last_by : List ℕ → List ℕ → ℕ → ℕ
last_by start last w = last_of start w (get_or last w 0)

-- what is read for `late`: a place in each column for each start, and the last read of a write
pub record Ends (start writer last : List ℕ) : Type 0 where
  pub writers : length writer ≡ length start
  pub lasting : length last ≡ length start
  pub lasts : (w : ℕ) → w < length start → get_or writer w 0 ≡ w → get_or last w 0 ≤ length start

-- the writes below i have theirs
pub record Lates (start writer last : List ℕ) (i : ℕ) (late : List ℕ) : Type 0 where
  pub long : length late ≡ length start
  pub lates : (w : ℕ) → w < i → get_or writer w 0 ≡ w → get_or late w 0 ≡ last_by start last w

-- the zone of w
abbrev pub zone_by : List ℕ → List ℕ → ℕ → Zone
zone_by finish late w = record { finish = get_or finish w 0; start = get_or late w 0 }

-- `late` gives the zones of the history's clusters (01, "Zones")
pub record Zoned (C : Cols) (late : List ℕ) : Type 0 where
  pub long : length late ≡ size C
  pub zones : Says C (λ H. (w : ℕ) → w < size C → wr C w ≡ w → zone_of H (op H w) ≡ zone_by C.finish late w)

-- a cluster by position: a write, then its reads by start (01, "Zones")
abbrev pub cluster_at : List ℕ → ℕ → List ℕ
cluster_at writer w = w ∷ upto (read_of writer w) (length writer)

-- x has the lower low end, and the writes by low end (01, "Zones")
abbrev pub lower_first : List ℕ → List ℕ → ℕ → ℕ → Bool
lower_first finish late x y = leb (low (zone_by finish late x)) (low (zone_by finish late y))

abbrev pub writes_at : List ℕ → List ℕ
writes_at writer = upto (is_own writer) (length writer)

unfoldable pub by_low : List ℕ → List ℕ → List ℕ → List ℕ
by_low finish late writer = sort (lower_first finish late) (writes_at writer)

-- the writes below i have their low ends in a column of at least as many places as there are operations
pub record Lows (finish late writer : List ℕ) (i : ℕ) (column : List ℕ) : Type 0 where
  pub long : length writer ≤ length column
  pub lows : (w : ℕ) → w < i → get_or writer w 0 ≡ w → get_or column w 0 ≡ low (zone_by finish late w)

-- a list of positions
abbrev pub Inside : List ℕ → List ℕ → Type 0
Inside column list = (i : ℕ) → i < length list → get_or list i 0 < length column
