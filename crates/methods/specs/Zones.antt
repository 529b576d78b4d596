-- Clusters and their zones, and the zone method (document 01, "Zones"; 000, section IV), over a prepared history H.
-- Assumes nothing.
use Rattle.std.specs.Prelude.{ℕ, min, max, Bool, not, ◌&&◌, ◌||◌, cond, ltb, leb}
use mathlib.Core.List.{List, ◌∷◌, flat_map}
use Rattle.lists.specs.Lists.{keep, all}
use Rattle.lists.specs.Sorts.{sort}
use Rattle.history.specs.declared.Op.{Op}
use Rattle.methods.specs.declared.Zone.{Zone}
use Rattle.methods.specs.Extremes.{least, greatest}
use Rattle.methods.specs.Prepared.{reads_of}
use Rattle.methods.specs.Place.{other_value, writes}

-- What a method decides: that there is no order of the kind (01, code 12), or an order (01, code 0).
pub data Decision : Type 0 where
  none : Decision
  order : List Op → Decision

-- A zone is made of the smallest finish and the largest start; its low end, its high end, and its direction: forward when that finish is
-- below that start, else backward (01, "Zones"; 000, section IV).
abbrev pub low : Zone → ℕ
low z = min z.finish z.start

abbrev pub high : Zone → ℕ
high z = max z.finish z.start

abbrev pub forward : Zone → Bool
forward z = ltb z.finish z.start

abbrev pub backward : Zone → Bool
backward z = not (forward z)

-- two forward zones overlap; a backward zone b lies inside a forward zone z (01, "Zones")
abbrev pub overlap : Zone → Zone → Bool
overlap y z = forward y && forward z && ltb (low y) (high z) && ltb (low z) (high y)

abbrev pub inside : Zone → Zone → Bool
inside b z = backward b && forward z && ltb (low z) (low b) && ltb (high b) (high z)

module _ (H : List Op) where
  -- a cluster: a write, then its reads by start (01, "Zones")
  abbrev pub cluster : Op → List Op
  cluster w = w ∷ reads_of H w

  -- its smallest finish, its largest start, and its zone (01, "Zones"; 000, section IV)
  unfoldable pub first_finish : Op → ℕ
  first_finish w = least (λ o. o.finish) w.finish (reads_of H w)

  unfoldable pub last_start : Op → ℕ
  last_start w = greatest (λ o. o.start) w.start (reads_of H w)

  abbrev pub zone_of : Op → Zone
  zone_of w = record { finish = first_finish w; start = last_start w }

  -- v has the lower low end (01, "Zones")
  abbrev pub low_first : Op → Op → Bool
  low_first v w = leb (low (zone_of v)) (low (zone_of w))

  -- 1-atomic: no two forward zones overlap and no backward zone lies inside a forward one (01, "Zones")
  unfoldable pub clear : Op → Op → Bool
  clear v w = not (overlap (zone_of v) (zone_of w) || inside (zone_of v) (zone_of w))

  unfoldable pub is_one : Bool
  is_one = all (λ v. all (clear v) (keep (other_value v) (writes H))) (writes H)

  -- the order: the clusters joined by low end (01, "Zones")
  unfoldable pub in_order : List Op
  in_order = flat_map cluster (sort low_first (writes H))

  -- the zone method (01, question 1)
  unfoldable pub zones : Decision
  zones = cond is_one (order in_order) none
