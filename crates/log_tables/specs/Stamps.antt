-- Stamps as clock time in a log that loads, and the log with its stamps so written (document 02, W-205).
-- Assumes nothing.
use Rattle.std.specs.Prelude.{ℕ, suc, ◌≤◌, ◌<◌, ◌≡◌, cond, ◌||◌, List, [], ◌∷◌, map, eqb, ltb, length, get_or, Option, Some, None}
use Rattle.history.specs.Table.{largest_stamp, cell}
use Rattle.clock.specs.Clock.{clock_of, stamp_in}
use Rattle.cells.specs.Grids.{bytes_of, text_of}
use Rattle.headers.specs.declared.Columns.{Columns}
use Rattle.headers.specs.Header.{header_cells, columns_of}
use Rattle.log_tables.specs.Logs.{data_lines, LoadsAs}
use Rattle.log_tables.specs.Shuffled.{rows_in}

-- the cell of data line i in a column
abbrev pub line_cell : List ℕ → ℕ → ℕ → List ℕ
line_cell bs i column = get_or (get_or (rows_in bs) i []) column []

-- A stamp's clock text in a start or finish cell is the stamp in the table (02, W-205, "written as clock text and loaded to the same number").
pub record LoadsStamps (bs table : List ℕ) : Type 0 where
  pub start : (i s : ℕ) → i < length (data_lines bs) → s ≤ largest_stamp → line_cell bs i (columns_of bs).start ≡ clock_of s → cell table i 3 ≡ s
  pub finish : (i s : ℕ) → i < length (data_lines bs) → s ≤ largest_stamp → line_cell bs i (columns_of bs).finish ≡ clock_of s → cell table i 4 ≡ s

-- a cell as the clock time of the number that it says; as it is, where that is no stamp
unfoldable pub as_clock : List ℕ → Option ℕ → List ℕ
as_clock t None = t
as_clock t (Some s) = cond (ltb largest_stamp s) t (clock_of s)

-- the cell of column k so written, where it is a start or a finish
abbrev pub clock_cell : Columns → ℕ → List ℕ → List ℕ
clock_cell cs k t = cond (eqb k cs.start || eqb k cs.finish) (as_clock t (stamp_in t)) t

-- a line's cells from column k on, so written
unfoldable pub clock_cells : Columns → ℕ → List (List ℕ) → List (List ℕ)
clock_cells cs k [] = []
clock_cells cs k (t ∷ r) = clock_cell cs k t ∷ clock_cells cs (suc k) r

-- The log with its stamps written as clock time.
unfoldable pub clocked : List ℕ → List ℕ
clocked bs = text_of (bytes_of (header_cells bs) ∷ map (clock_cells (columns_of bs) 0) (rows_in bs))

-- A log that loads, and the log with its stamps written as clock time, load as the same table (02, W-205, "Loading takes either form").
abbrev pub LoadsClocked : List ℕ → List ℕ → Type 0
LoadsClocked bs table = LoadsAs (clocked bs) bs table
