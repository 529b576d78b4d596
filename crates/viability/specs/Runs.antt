-- What a maximal run of overlapping forward zones is, over a prepared history H (document 01, "FZF"; 000, section IV).
-- Assumes nothing.
use Rattle.std.specs.Prelude.{◌≤◌, ◌<◌, ◌≡◌}
use mathlib.Core.List.{List, Memᴰ as In}
use Rattle.history.specs.declared.Op.{Op}
use Rattle.methods.specs.Zones.{first_finish, last_start}
use Rattle.methods.specs.Fzf.{Run, forwards}
use Rattle.chunks.specs.Chunk.{Rising}

module _ (H : List Op) where
  -- the zone of w is forward (01, "Zones")
  abbrev pub Forward : Op → Type 0
  Forward w = first_finish H w < last_start H w

  -- A run (01, "FZF"): its forward clusters rise in low end, each but the first has its low end inside the zone of an
  -- earlier one, and `top` is the largest high end.
  pub record IsRun (r : Run) : Type 0 where
    pub rising : Rising (first_finish H) (forwards r)
    pub forth : (w : Op) → In w (forwards r) → Forward w
    pub linked : (x : Op) → In x r.more → (y : Op) × In y (forwards r) × (first_finish H y < first_finish H x) × (first_finish H x < last_start H y)
    pub below : (w : Op) → In w (forwards r) → last_start H w ≤ r.top
    pub reached : (w : Op) × In w (forwards r) × (r.top ≡ last_start H w)
