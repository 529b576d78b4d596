-- What the reading of a header gives, and its steps, each behind what the steps before gave.
-- Assumes nothing.
use Rattle.std.specs.Prelude.{ℕ, ◌+◌, false, cond, List, ltb, length, drop}
use Rattle.parsing.specs.Numbers.{front}
use Rattle.cells.specs.Parts.{same}
use Rattle.cells.specs.Steps.{cells_from}
use Rattle.headers.specs.declared.Named.{Named}
use Rattle.headers.specs.declared.Header.{Header}
use Rattle.headers.specs.Header.{register_name, kind_name, value_name, start_name, finish_name, more, width, named_from, places_of, complete, sound_header, columns_of}

-- what loading knows of the header: whether it is sound, where the data lines start, how many cells it has, and where the needed columns stand
unfoldable pub header_of : List ℕ → Header
header_of bs = record { sound = sound_header bs; start = length (front bs) + 1; width = width bs; columns = columns_of bs }

-- what is found behind one cell more, numbered k
abbrev pub named_with : Named → List ℕ → ℕ → Named
named_with n cell k =
    record {
      register = cond (same cell register_name) (more n.register k) n.register;
      kind = cond (same cell kind_name) (more n.kind k) n.kind;
      value = cond (same cell value_name) (more n.value k) n.value;
      start = cond (same cell start_name) (more n.start k) n.start;
      finish = cond (same cell finish_name) (more n.finish k) n.finish;
    }

-- the header of a text of some size, by what was found in its cells, their count, and the line's end
abbrev pub header_by : ℕ → Named → ℕ → ℕ → Header
header_by size named count end =
    record { sound = cond (ltb end size) (complete named) false; start = end + 1; width = count; columns = places_of named }

-- the header read from a cell on, numbered k, at an offset
unfoldable pub header_from : List ℕ → Named → ℕ → ℕ → Header
header_from bs named k at =
    let ps = cells_from bs k at in header_by (length bs) (named_from named ps) (k + length ps) (at + length (front (drop at bs)))
