-- Grids of cells that load: names, and rows of cells below them (document 02, W-201).
-- Assumes nothing.
use Rattle.std.specs.Prelude.{ℕ, ◌*◌, ◌≤◌, ◌<◌, ◌≡◌, true, length, get_or, drop}
use mathlib.Core.List.{List, [], ◌∷◌, ◌++◌, flat_map, Memᴰ as In}
use Rattle.history.specs.Table.{largest_count}
use Rattle.history.specs.Answer.{passed}
use Rattle.records.specs.Records.{cells}
use Rattle.parsing.specs.Numbers.{is_number}
use Rattle.cells.specs.Parts.{comma, feed}
use Rattle.cells.specs.Grids.{text_of, laid, AllFree}
use Rattle.headers.specs.declared.Column.TheVariants.{Missing, Only}
use Rattle.headers.specs.declared.Columns.{Columns}
use Rattle.headers.specs.Header.{register_name, kind_name, value_name, start_name, finish_name, column_from}
use Rattle.log_tables.specs.Logs.{said_in, row_of, load_answer, load_table}

-- Each needed name stands among the names once, at the columns ps.
pub record NamesIn (names : List (List ℕ)) (ps : Columns) : Type 0 where
  pub register : column_from register_name Missing (laid 0 0 names) ≡ Only ps.register
  pub kind : column_from kind_name Missing (laid 0 0 names) ≡ Only ps.kind
  pub value : column_from value_name Missing (laid 0 0 names) ≡ Only ps.value
  pub start : column_from start_name Missing (laid 0 0 names) ≡ Only ps.start
  pub finish : column_from finish_name Missing (laid 0 0 names) ≡ Only ps.finish

-- A row of w cells that can be read in the columns ps.
pub record Readable (ps : Columns) (w : ℕ) (r : List (List ℕ)) : Type 0 where
  pub wide : length r ≡ w
  pub said : (j : ℕ) → j < w → is_number (said_in ps j (get_or r j [])) ≡ true
  pub commas : AllFree comma r
  pub feeds : AllFree feed r

-- A grid that loads.
pub record Grid (names : List (List ℕ)) (rows : List (List (List ℕ))) (ps : Columns) : Type 0 where
  pub named : NamesIn names ps
  pub commas : AllFree comma names
  pub feeds : AllFree feed names
  pub readable : (r : List (List ℕ)) → In r rows → Readable ps (length names) r
  pub few : length rows ≤ largest_count

-- The table of rows of cells.
abbrev pub rows_table : Columns → List (List (List ℕ)) → List ℕ
rows_table ps rs = flat_map (λ r. cells (row_of ps r)) rs

-- The text of a grid loads as the table of the grid.
abbrev pub GridLoads : List (List ℕ) → List (List (List ℕ)) → Columns → Type 0
GridLoads names rows ps =
    (table : List ℕ) →
    length rows * 5 ≤ length table →
    (load_answer (text_of (names ∷ rows)) table ≡ passed (length rows))
    × (load_table (text_of (names ∷ rows)) table ≡ rows_table ps rows ++ drop (length (rows_table ps rows)) table)
