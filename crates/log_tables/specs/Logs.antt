-- Loading a log: the tests, the answer and the table (document 02, W-201).
-- Assumes nothing.
use Rattle.std.specs.Prelude.{ℕ, ◌+◌, ◌*◌, ◌≡◌, Bool, cond, not, ltb, leb, eqb, length, get_or, Option, Some, None}
use mathlib.Core.List.{List, [], ◌∷◌, ◌++◌, flat_map}
use Rattle.lists.specs.Lists.{first}
use Rattle.history.specs.declared.Answer.{Answer}
use Rattle.history.specs.declared.Row.{Row}
use Rattle.history.specs.Table.{largest_count}
use Rattle.history.specs.Answer.{Test, test, if_so, first_met, passed}
use Rattle.history.specs.declared.Code.TheVariants.{Overfull, HeaderFault, UnreadableCell}
use Rattle.records.specs.Records.{cells}
use Rattle.files.specs.Files.{room_test, after}
use Rattle.parsing.specs.Numbers.{number_of, is_number, front}
use Rattle.clock.specs.Clock.{stamp_in}
use Rattle.cells.specs.Parts.{Part, cells_of, lines_from, kind_of}
use Rattle.cells.specs.Grids.{bytes_of}
use Rattle.headers.specs.declared.Columns.{Columns}
use Rattle.headers.specs.Header.{sound_header, columns_of, width}

-- What a cell says in column k: a kind, a number, a stamp in either form, or in a skipped column 0, whatever it holds (02, W-201, "Kind cells are w or
-- r, those of the other four one or more decimal digits"; W-205, "either form in a start or finish cell").
unfoldable pub said_in : Columns → ℕ → List ℕ → Option ℕ
said_in cs k t =
    cond (eqb k cs.kind) (kind_of t)
    (cond (eqb k cs.register) (number_of t)
    (cond (eqb k cs.value) (number_of t)
    (cond (eqb k cs.start) (stamp_in t)
    (cond (eqb k cs.finish) (stamp_in t) (Some 0)))))

-- what a line's cell says; and that it cannot be read (02, W-201, "a cell that cannot be read")
abbrev pub said : Columns → Part → Option ℕ
said cs p = said_in cs p.number p.bytes

abbrev pub unreadable : Columns → Part → Bool
unreadable cs p = not (is_number (said cs p))

-- the number said; 0 where none is
unfoldable pub amount : Option ℕ → ℕ
amount (Some x) = x
amount None = 0

-- The number that a line's cells have in column k.
abbrev pub number_at : Columns → List (List ℕ) → ℕ → ℕ
number_at cs r k = amount (said_in cs k (get_or r k []))

-- The row of a line's cells: the numbers in the needed columns (02, W-201, "one row a data line").
abbrev pub row_of : Columns → List (List ℕ) → Row
row_of cs r =
    record {
      register = number_at cs r cs.register;
      kind = number_at cs r cs.kind;
      value = number_at cs r cs.value;
      start = number_at cs r cs.start;
      finish = number_at cs r cs.finish;
    }

-- The data lines: those behind the header line (02, W-201, "one row a data line, in sequence").
unfoldable pub data_lines : List ℕ → List Part
data_lines bs = lines_from bs 0 (length (front bs) + 1)

-- A condition on a line, whose row field is the line's offset (02, W-201, "the line's offset").
abbrev pub at_line : ℕ → Bool → Option ℕ
at_line at b = cond b (Some at) None

-- The tests of a data line of a text, in a log with some columns in w cells (02, W-201, "each line is tested for 2, line feed, cell count, cells").
unfoldable pub line_tests : List ℕ → Columns → ℕ → Part → List Test
line_tests bs cs w l =
    test Overfull (at_line l.at (leb largest_count l.number))
    ∷ test UnreadableCell (at_line l.at (not (ltb (l.at + length l.bytes) (length bs))))
    ∷ test UnreadableCell (at_line l.at (not (eqb (length (cells_of l)) w)))
    ∷ test UnreadableCell (first (λ p. p.at) (unreadable cs) (cells_of l))
    ∷ []

-- Those of the header, and then of each data line (02, W-201, "It refuses with 18 .. then, in file sequence, with 19").
unfoldable pub log_tests : List ℕ → List Test
log_tests bs = test HeaderFault (if_so (not (sound_header bs))) ∷ flat_map (line_tests bs (columns_of bs) (width bs)) (data_lines bs)

-- The table of a log: our five numbers, one row a data line, in sequence (02, W-201).
abbrev pub rows_of : Columns → List Part → List ℕ
rows_of cs ls = flat_map (λ l. cells (row_of cs (bytes_of (cells_of l)))) ls

unfoldable pub log_table : List ℕ → List ℕ
log_table bs = rows_of (columns_of bs) (data_lines bs)

-- What loading answers where the table has room: the first of them met, or the count of data lines (02, W-201, "answered as in 01's reading").
abbrev pub log_answer : List ℕ → Answer
log_answer bs = first_met (log_tests bs) (passed (length (data_lines bs)))

-- Loading into a table of some places (02, W-201, "10 follows the last line").
unfoldable pub load_tests : List ℕ → ℕ → List Test
load_tests bs room = log_tests bs ++ (room_test (length (data_lines bs) * 5) room ∷ [])

unfoldable pub load_answer : List ℕ → List ℕ → Answer
load_answer bs table = first_met (load_tests bs (length table)) (passed (length (data_lines bs)))

unfoldable pub load_table : List ℕ → List ℕ → List ℕ
load_table bs table = after (load_answer bs table) (log_table bs) table

-- A call's answer and the table after it are those of the loading.
abbrev pub Loads : List ℕ → List ℕ → Answer → List ℕ → Type 0
Loads bs table answer left = (answer ≡ load_answer bs table) × (left ≡ load_table bs table)

-- A copy of a log loads as the log does.
abbrev pub LoadsAs : List ℕ → List ℕ → List ℕ → Type 0
LoadsAs copy bs table = (load_answer copy table ≡ load_answer bs table) × (load_table copy table ≡ load_table bs table)
