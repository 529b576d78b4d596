-- The chunks by the columns (document 01, "FZF"): which zones are forward, how far a run of them reaches, and which backward zones lie inside.
-- Assumes nothing.
use Rattle.std.specs.Prelude.{ℕ, zero, suc, ◌+◌, ◌≤◌, ◌<◌, max, ◌≡◌, Bool, true, false, not, cond, List, [], ◌∷◌, length, get_or, drop, ltb}
use Rattle.lists.specs.Lists.{keep, all}
use Rattle.methods.specs.declared.Zone.{Zone}
use Rattle.methods.specs.Zones.{low, high, forward}
use Rattle.zones.specs.Zones.{zone_by, by_low}
use Rattle.chunking.specs.declared.Span.{Span}

-- the zone of w is forward, or backward, as asked
unfoldable pub faces : List ℕ → List ℕ → Bool → ℕ → Bool
faces finish late b w = cond b (forward (zone_by finish late w)) (not (forward (zone_by finish late w)))

-- the zone of w lies inside (bottom, top)
unfoldable pub lies : List ℕ → List ℕ → ℕ → ℕ → ℕ → Bool
lies finish late bottom top w = cond (ltb bottom (low (zone_by finish late w))) (ltb (high (zone_by finish late w)) top) false

-- the writes of the forward zones, or of the backward ones, by low end
abbrev pub side : List ℕ → List ℕ → List ℕ → Bool → List ℕ
side finish late writer b = keep (faces finish late b) (by_low finish late writer)

-- the ends of a run's union
pub record Reach : Type 0 where
  pub bottom : ℕ
  pub top : ℕ

module _ (z : ℕ → Zone) where
  -- how many of the list are of the run whose top is t
  unfoldable pub more : ℕ → List ℕ → ℕ
  more t [] = 0
  more t (x ∷ l) = cond (ltb (low (z x)) t) (suc (more (max t (high (z x))) l)) 0

  -- and its top then
  unfoldable pub top_of : ℕ → List ℕ → ℕ
  top_of t [] = t
  top_of t (x ∷ l) = cond (ltb (low (z x)) t) (top_of (max t (high (z x))) l) t

  -- the ends of each run of a list of at most n
  unfoldable pub reaches : ℕ → List ℕ → List Reach
  reaches zero l = []
  reaches (suc n) [] = []
  reaches (suc n) (x ∷ l) = record { bottom = low (z x); top = top_of (high (z x)) l } ∷ reaches n (drop (more (high (z x)) l) l)

-- the run that begins at a: where it ends in the list, and its top
pub record Spans (finish late list : List ℕ) (a : ℕ) (r : Span) : Type 0 where
  pub end : r.end ≡ (a + 1) + more (zone_by finish late) (high (zone_by finish late (get_or list a 0))) (drop (a + 1) list)
  pub top : r.top ≡ top_of (zone_by finish late) (high (zone_by finish late (get_or list a 0))) (drop (a + 1) list)

-- the zone of w lies inside no run of the list
unfoldable pub dangles_by : List ℕ → List ℕ → List ℕ → ℕ → Bool
dangles_by finish late list w = all (λ q. not (lies finish late q.bottom q.top w)) (reaches (zone_by finish late) (length list) list)

-- r is the place of the first dangling one from j on, or the end of the list
pub record Skips (finish late forwards backwards : List ℕ) (j r : ℕ) : Type 0 where
  pub from : j ≤ r
  pub to : r ≤ length backwards
  pub same : keep (dangles_by finish late forwards) (drop j backwards) ≡ keep (dangles_by finish late forwards) (drop r backwards)
  pub hit : r < length backwards → dangles_by finish late forwards (get_or backwards r 0) ≡ true
