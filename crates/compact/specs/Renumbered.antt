-- Operations with other row numbers, in the same sequence (document 01, "The row": the row number is the operation's place in the table).
-- Assumes nothing.
use Rattle.std.specs.Prelude.{ℕ, ◌≡◌, ltb}
use mathlib.Core.List.{List, Memᴰ as In}
use Rattle.history.specs.declared.Op.{Op}

module _ (f : ℕ → ℕ) where
  -- the operation with the row number that f gives
  abbrev pub renumbered : Op → Op
  renumbered o = record { row = f o.row; kind = o.kind; value = o.value; start = o.start; finish = o.finish }

  -- f keeps the sequence of the operations' rows
  abbrev pub Keeps : List Op → Type 0
  Keeps h = (a b : Op) → In a h → In b h → ltb (f a.row) (f b.row) ≡ ltb a.row b.row
