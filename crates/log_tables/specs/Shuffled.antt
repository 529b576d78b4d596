-- A log and its column-shuffled copy (document 02, W-201).
-- Assumes nothing.
use Rattle.std.specs.Prelude.{ℕ, ◌<◌, ◌≢◌}
use mathlib.Core.List.{List, ◌∷◌, map, Memᴰ as In}
use Rattle.lists.specs.Pairs.{Pairs}
use Rattle.cells.specs.Parts.{cells_of}
use Rattle.cells.specs.Grids.{bytes_of, text_of, rearranged}
use Rattle.headers.specs.Header.{header_cells, width}
use Rattle.log_tables.specs.Logs.{data_lines, LoadsAs}

-- An order of n columns lists each of them once.
pub record Reorders (n : ℕ) (o : List ℕ) : Type 0 where
  pub once : Pairs ◌≢◌ o
  pub each : (k : ℕ) → k < n → In k o
  pub only : (k : ℕ) → In k o → k < n

-- The cells of a text, line by line: those of the header, and those of the data lines.
abbrev pub rows_in : List ℕ → List (List (List ℕ))
rows_in bs = map (λ l. bytes_of (cells_of l)) (data_lines bs)

abbrev pub grid_of : List ℕ → List (List (List ℕ))
grid_of bs = bytes_of (header_cells bs) ∷ rows_in bs

-- The text with the cells of each line rearranged (02, W-201, "its column-shuffled copy").
unfoldable pub shuffled : List ℕ → List ℕ → List ℕ
shuffled o bs = text_of (map (rearranged o) (grid_of bs))

-- A log that loads and its column-shuffled copy load as the same table (02, W-201).
abbrev pub LoadsAlike : List ℕ → List ℕ → Type 0
LoadsAlike bs table =
    (o : List ℕ) →
    Reorders (width bs) o →
    LoadsAs (shuffled o bs) bs table
