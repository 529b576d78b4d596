-- The decision of 1-atomicity in one pass over the zones by low end (document 01, "Zones").
-- Assumes nothing.
use Rattle.std.specs.Prelude.{ℕ, ◌≡◌, Bool, true, false, cond, List, [], ◌∷◌, map, ltb}
use Rattle.lists.specs.Sorts.{sort}
use Rattle.history.specs.declared.Op.{Op}
use Rattle.methods.specs.declared.Zone.{Zone}
use Rattle.methods.specs.Place.{writes}
use Rattle.methods.specs.Zones.{forward, zone_of, low_first, is_one}

-- the largest start of the last forward zone, where `bound` is that of the zones before
unfoldable pub reached : ℕ → Zone → ℕ
reached bound z = cond (forward z) z.start bound

-- no smallest finish is below the largest start of the last forward zone before it
unfoldable pub passes : ℕ → List Zone → Bool
passes bound [] = true
passes bound (z ∷ l) = cond (ltb z.finish bound) false (passes (reached bound z) l)

-- the pass over the zones by low end decides what the definition asks of every two (01, "Zones")
abbrev pub PassDecides : List Op → Type 0
PassDecides H = passes 0 (map (zone_of H) (sort (low_first H) (writes H))) ≡ is_one H
