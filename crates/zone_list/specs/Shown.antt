-- What a zone list shows (document 02, W-206): each write once, with the direction and the ends of its zone by the recorded stamps alone.
-- Assumes nothing.
use Rattle.std.specs.Prelude.{ℕ, ◌*◌, ◌<◌, ◌≡◌, ◌≢◌, Bool, true, cond, get_or, take, drop}
use mathlib.Core.List.{List, ◌∷◌, Memᴰ as In}
use Rattle.lists.specs.Lists.{any}
use Rattle.history.specs.declared.Op.{Op}
use Rattle.history.specs.Table.{is_opening, is_write, dictates}
use Rattle.methods.specs.Place.{write_count}
use Rattle.methods.specs.Zones.{forward}
use Rattle.zone_list.specs.ZoneList.{stamps_of, directed}

-- the direction by the recorded stamps alone (02, W-206); the opening's zone is forward when it has a read (02, W-207)
abbrev pub ahead : List Op → Op → Bool
ahead h w = cond (is_opening w) (any (dictates w) h) (forward (stamps_of h w))

-- the four numbers at place i: the row of the write w, and its zone
abbrev pub Shows : List Op → List ℕ → ℕ → Op → Type 0
Shows h list i w = take 4 (drop (i * 4) list) ≡ w.row ∷ directed (ahead h w) (stamps_of h w)

-- each place shows a write of the register, each write is shown, no row stands at two places, and the opening stands first (02, W-207)
pub record Shown (h : List Op) (list : List ℕ) : Type 0 where
  pub each : (i : ℕ) → i < write_count h → (w : Op) × In w h × (is_write w ≡ true) × Shows h list i w
  pub all : (w : Op) → In w h → is_write w ≡ true → (i : ℕ) × (i < write_count h) × Shows h list i w
  pub once : (i j : ℕ) → i < j → j < write_count h → get_or list (i * 4) 0 ≢ get_or list (j * 4) 0
  pub first : (w : Op) → In w h → is_opening w ≡ true → get_or list 0 0 ≡ w.row
