-- A text's cells from an offset on, as the code comes to them.
-- Assumes nothing.
use Rattle.std.specs.Prelude.{ℕ, ◌+◌, Bool, false, cond, ◌||◌, List, [], ◌∷◌, eqb, ltb, length, get_or, drop, Option}
use Rattle.parsing.specs.Numbers.{front}
use Rattle.cells.specs.declared.Cell.{Cell}
use Rattle.cells.specs.Parts.{comma, feed, Part, parts}

-- the cells of the line that a text has from an offset on, the first of them numbered k
unfoldable pub cells_from : List ℕ → ℕ → ℕ → List Part
cells_from bs k at = parts comma k at (front (drop at bs))

-- the bytes before the first comma or line feed
unfoldable pub cell_in : List ℕ → List ℕ
cell_in [] = []
cell_in (b ∷ t) = cond (eqb b comma || eqb b feed) [] (b ∷ cell_in t)

-- the cell that begins at an offset, and where it ends
abbrev pub cell_at : List ℕ → ℕ → List ℕ
cell_at bs at = cell_in (drop at bs)

abbrev pub end_of : List ℕ → ℕ → ℕ
end_of bs at = at + length (cell_at bs at)

-- the cell that begins at an offset, and what it says
abbrev pub saying : List ℕ → ℕ → Option ℕ → Cell
saying bs at number = record { end = end_of bs at; number = number }

-- a comma stands at an offset
unfoldable pub comma_at : List ℕ → ℕ → Bool
comma_at bs at = cond (ltb at (length bs)) (eqb (get_or bs at 0) comma) false
