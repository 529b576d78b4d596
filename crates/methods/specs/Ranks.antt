-- Ranks (document 02, W-203): all stamps of a register in one sequence, in which no two are equal. They take the place of the stamps in
-- shortening, zones and both searches.
-- Assumes nothing.
use Rattle.std.specs.Prelude.{ℕ, Bool, cond, ◌&&◌, ◌||◌, List, ◌++◌, map, ltb, eqb, length}
use Rattle.lists.specs.Lists.{keep}
use Rattle.history.specs.declared.Op.{Op}
use Rattle.history.specs.Table.{is_opening}

-- A stamp of a register: its level, its number, 0 for a start and 1 for a finish, and its row (02, W-203).
pub record Event : Type 0 where
  pub level : ℕ
  pub stamp : ℕ
  pub side : ℕ
  pub row : ℕ

-- the opening lies below every rank (02, W-207): its stamps have the level 0, all others 1
abbrev pub level_of : Op → ℕ
level_of o = cond (is_opening o) 0 1

-- the start and the finish of an operation (02, W-203)
abbrev pub starting : Op → Event
starting o = record { level = level_of o; stamp = o.start; side = 0; row = o.row }

abbrev pub finishing : Op → Event
finishing o = record { level = level_of o; stamp = o.finish; side = 1; row = o.row }

-- all stamps of a register (02, W-203)
abbrev pub events : List Op → List Event
events h = map starting h ++ map finishing h

-- a is below b, or they are equal and the rest decides (02, W-203)
abbrev pub lower : ℕ → ℕ → Bool → Bool
lower a b next = ltb a b || (eqb a b && next)

-- d comes before e: by their levels, then by their stamps; at an equal stamp starts come before finishes, then the lower row first (02,
-- W-203 and W-207)
unfoldable pub sooner : Event → Event → Bool
sooner d e = lower d.level e.level (lower d.stamp e.stamp (lower d.side e.side (ltb d.row e.row)))

-- the rank of a stamp: how many of the register come before it (02, W-203)
unfoldable pub rank : List Op → Event → ℕ
rank h e = length (keep (λ d. sooner d e) (events h))

-- an operation with other stamps (02, W-203; 01, "Doubled stamps")
abbrev pub stamped : ℕ → ℕ → Op → Op
stamped start finish o = record { row = o.row; kind = o.kind; value = o.value; start = start; finish = finish }

-- the operation with ranks for stamps, and the history with them (02, W-203)
abbrev pub by_rank : List Op → Op → Op
by_rank h o = stamped (rank h (starting o)) (rank h (finishing o)) o

unfoldable pub ranked : List Op → List Op
ranked h = map (by_rank h) h
