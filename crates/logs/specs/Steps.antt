-- What the steps of loading give, each behind what the steps before gave.
-- Assumes nothing.
use Rattle.std.specs.Prelude.{ℕ, ◌+◌, ◌*◌, ◌≤◌, ◌≡◌, Bool, true, cond, not, ltb, leb, eqb, length, drop, Some, Option, None}
use mathlib.Core.List.{List, [], ◌∷◌, ◌++◌, flat_map}
use Rattle.std.proofs.lemmas.List.Edits.{sets}
use Rattle.lists.specs.Lists.{first}
use Rattle.history.specs.declared.Answer.{Answer}
use Rattle.history.specs.declared.Row.{Row}
use Rattle.history.specs.Table.{largest_count}
use Rattle.history.specs.Answer.{Test, test, first_met, passed}
use Rattle.history.specs.declared.Code.TheVariants.{Overfull, UnreadableCell}
use Rattle.files.specs.Files.{room_test, after}
use Rattle.parsing.specs.Numbers.{front}
use Rattle.cells.specs.Parts.{Part, lines_from}
use Rattle.cells.specs.declared.Cell.{Cell}
use Rattle.cells.specs.Steps.{cells_from, cell_at, end_of}
use Rattle.headers.specs.declared.Columns.{Columns}
use Rattle.logs.specs.declared.Line.{Line}
use Rattle.log_tables.specs.Logs.{said_in, said, unreadable, amount, at_line, line_tests, rows_of}

-- column k holds numbers, stamps among them
unfoldable pub holds_number : Columns → ℕ → Bool
holds_number cs k =
    cond (eqb k cs.register) true (cond (eqb k cs.value) true (cond (eqb k cs.start) true (eqb k cs.finish)))

-- A cell at an offset, read in column k without clock time: where it ends and, where it was read, what it says.
pub record SaysDecimal (bs : List ℕ) (at : ℕ) (cs : Columns) (k : ℕ) (cell : Cell) : Type 0 where
  pub ends : cell.end ≡ end_of bs at
  pub said : (x : ℕ) → cell.number ≡ Some x → said_in cs k (cell_at bs at) ≡ Some x

-- the number in column c of some cells; x where they have no such column
unfoldable pub in_column : Columns → ℕ → ℕ → List Part → ℕ
in_column cs c x [] = x
in_column cs c x (p ∷ ps) = in_column cs c (cond (eqb p.number c) (amount (said cs p)) x) ps

-- a row so far, with the numbers of some cells; and the row that is begun with
abbrev pub row_from : Columns → Row → List Part → Row
row_from cs r ps =
    record {
      register = in_column cs cs.register r.register ps;
      kind = in_column cs cs.kind r.kind ps;
      value = in_column cs cs.value r.value ps;
      start = in_column cs cs.start r.start ps;
      finish = in_column cs cs.finish r.finish ps;
    }

abbrev pub no_row : Row
no_row = record { register = 0; kind = 0; value = 0; start = 0; finish = 0 }

-- a row so far, with the number x of column k
abbrev pub with_cell : Columns → Row → ℕ → ℕ → Row
with_cell cs r k x =
    record {
      register = cond (eqb k cs.register) x r.register;
      kind = cond (eqb k cs.kind) x r.kind;
      value = cond (eqb k cs.value) x r.value;
      start = cond (eqb k cs.start) x r.start;
      finish = cond (eqb k cs.finish) x r.finish;
    }

-- the first of two places, where there is one
abbrev pub or_else : Option ℕ → Option ℕ → Option ℕ
or_else (Some n) g = Some n
or_else None g = g

-- A line walked from a cell on, numbered k, at an offset: its row, its cells, its end and its first cell that cannot be read, behind those of the
-- cells before.
unfoldable pub walked : List ℕ → Columns → Row → ℕ → ℕ → Option ℕ → Line
walked bs cs r k at fault =
    let ps = cells_from bs k at in
    record {
      row = row_from cs r ps;
      count = k + length ps;
      end = at + length (front (drop at bs));
      fault = or_else fault (first (λ p. p.at) (unreadable cs) ps);
    }

-- The tests of the data line numbered n that was walked, at an offset, in a text of some size and a log of w columns.
unfoldable pub walked_tests : ℕ → ℕ → ℕ → ℕ → Line → List Test
walked_tests size n w at line =
    test Overfull (at_line at (leb largest_count n))
    ∷ test UnreadableCell (at_line at (not (ltb line.end size)))
    ∷ test UnreadableCell (at_line at (not (eqb line.count w)))
    ∷ test UnreadableCell line.fault
    ∷ []

-- The answer of the data lines alone, which start at an offset: in a table with room for them, and in one of some places.
abbrev pub found_in : List ℕ → Columns → ℕ → ℕ → Answer
found_in bs cs w start = let ls = lines_from bs 0 start in first_met (flat_map (line_tests bs cs w) ls) (passed (length ls))

abbrev pub lines_answer : List ℕ → Columns → ℕ → ℕ → ℕ → Answer
lines_answer bs cs w start room =
    let ls = lines_from bs 0 start in first_met (flat_map (line_tests bs cs w) ls ++ (room_test (length ls * 5) room ∷ [])) (passed (length ls))

-- What the tests of the data lines leave: their answer r and, where it refuses nothing, their rows at the front of a table.
pub record LinesTested (bs : List ℕ) (cs : Columns) (w start : ℕ) (old new : List ℕ) (r : Answer) : Type 0 where
  pub room : 5120 ≤ length new
  pub answer : r ≡ found_in bs cs w start
  pub few : r.code ≡ 0 → length (lines_from bs 0 start) ≤ largest_count
  pub stored : r.code ≡ 0 → new ≡ sets old 0 (rows_of cs (lines_from bs 0 start))

-- What loading the data lines leaves: their answer, and a table with their rows at its front where it refuses nothing.
abbrev pub LinesLoaded : List ℕ → Columns → ℕ → ℕ → List ℕ → Answer → List ℕ → Type 0
LinesLoaded bs cs w start table answer left =
    (answer ≡ lines_answer bs cs w start (length table)) × (left ≡ after answer (rows_of cs (lines_from bs 0 start)) table)
