-- Reading and writing a history file: the tests, the answer and what lies in the lent buffer afterwards (document 01, "Files, program, C host").
-- Assumes nothing.
use Rattle.std.specs.Prelude.{ℕ, ◌+◌, ◌*◌, ◌-◌, ◌%◌, ◌≤◌, ◌<◌, ◌≡◌, Bool, false, cond, not, ◌||◌, ltb, leb, eqb, length, drop, Option, Some, None}
use mathlib.Core.List.{List, [], ◌∷◌, ◌++◌, map, flat_map}
use Rattle.lists.specs.Lists.{up_to}
use Rattle.history.specs.declared.Answer.{Answer}
use Rattle.history.specs.declared.Op.{Op}
use Rattle.history.specs.Table.{largest_count, operation, op_at, row_count}
use Rattle.history.specs.Answer.{Test, test, if_so, lowest_row, first_met, passed}
use Rattle.history.specs.declared.Code.TheVariants.{Ragged, Overfull, BadKind, BadSpan, ShortList, CutRecord, StrangeRecord}
use Rattle.history.specs.Screen.{wrong_kind, stray_opening}
use Rattle.records.specs.Records.{field, body_length, begun, offset, record_from, record_at, table_of, file_of, Stands}

-- A condition on the record at an offset, which is the row field (01's table, 16 and 17).
abbrev pub at_record : ℕ → Bool → Option ℕ
at_record at b = cond b (Some at) None

-- The bytes from an offset on.
abbrev pub left : List ℕ → ℕ → ℕ
left bs at = length bs - at

-- A kind that does not go with the length: 18 goes with kind 3 only, 34 with 1 and 2 only (02, W-207).
unfoldable pub mismatched : ℕ → Op → Bool
mismatched size o = wrong_kind o || not (eqb size (body_length o.kind))

-- The tests at record n, which begins at an offset (01, "Reading tests at each record, in sequence"; 02, W-207, "16 goes by the record's own
-- length, and 17 covers the rest").
unfoldable pub record_tests : List ℕ → ℕ → ℕ → List Test
record_tests bs n at =
    test CutRecord (at_record at (eqb (left bs at) 1))
    ∷ test StrangeRecord (at_record at (not (eqb (field bs at 2) 34 || eqb (field bs at 2) 18)))
    ∷ test CutRecord (at_record at (ltb (left bs at) (2 + field bs at 2)))
    ∷ test StrangeRecord (at_record at (mismatched (field bs at 2) (operation (record_from bs at) n)))
    ∷ test Overfull (at_record at (leb largest_count n))
    ∷ []

-- Those of each record that begins (01, "Reading tests at each record, in sequence").
abbrev pub tests_at : List ℕ → ℕ → List Test
tests_at bs n = record_tests bs n (offset bs n)

unfoldable pub file_tests : List ℕ → List Test
file_tests bs = flat_map (tests_at bs) (up_to (begun bs))

-- What reading answers where the table has room: the first of them that is met, or the count of rows (01, "On success rows is the row count").
abbrev pub file_answer : List ℕ → Answer
file_answer bs = first_met (file_tests bs) (passed (begun bs))

-- The bytes are at most 1,024 records, each of which stands and is of a right kind.
pub record Whole (bs : List ℕ) : Type 0 where
  pub few : begun bs ≤ largest_count
  pub stands : (i : ℕ) → i < begun bs → Stands bs (offset bs i)
  pub kinds : (i : ℕ) → i < begun bs → wrong_kind (operation (record_at bs i) i) ≡ false

-- The lent buffer has fewer places than the result (01's table, 10).
abbrev pub room_test : ℕ → ℕ → Test
room_test needed room = test ShortList (if_so (ltb room needed))

-- A lent list after a call: the result at its front where the code is 0, else as it was (01, "A refused reading or writing changes nothing").
abbrev pub after : Answer → List ℕ → List ℕ → List ℕ
after a result old = cond (eqb a.code 0) (result ++ drop (length result) old) old

-- Reading into a table of some places (01, "After the last record comes 10").
unfoldable pub read_tests : List ℕ → ℕ → List Test
read_tests bs room = file_tests bs ++ (room_test (begun bs * 5) room ∷ [])

unfoldable pub read_answer : List ℕ → List ℕ → Answer
read_answer bs table = first_met (read_tests bs (length table)) (passed (begun bs))

unfoldable pub read_table : List ℕ → List ℕ → List ℕ
read_table bs table = after (read_answer bs table) (table_of bs) table

-- The operations of every row, whatever its register (01, "Writing tests 1, 2, 4 over every row").
unfoldable pub ops_of : List ℕ → List Op
ops_of t = map (op_at t) (up_to (row_count t))

-- The last two tests of a table that is to be written: an opening with another stamp than 0, then the room (02, W-207).
abbrev pub last_tests : List ℕ → ℕ → List Test
last_tests t room = test BadSpan (lowest_row stray_opening (ops_of t)) ∷ room_test (length (file_of t)) room ∷ []

-- Writing into a buffer of some places (01, "Writing tests 1, 2, 4 over every row, then 10"; 02, W-207, "a 5, in writing files too, after 4").
unfoldable pub write_tests : List ℕ → ℕ → List Test
write_tests t room =
    test Ragged (if_so (not (eqb (length t % 5) 0)))
    ∷ test Overfull (if_so (ltb largest_count (row_count t)))
    ∷ test BadKind (lowest_row wrong_kind (ops_of t))
    ∷ last_tests t room

unfoldable pub write_answer : List ℕ → List ℕ → Answer
write_answer t out = first_met (write_tests t (length out)) (passed (row_count t))

unfoldable pub write_bytes : List ℕ → List ℕ → List ℕ
write_bytes t out = after (write_answer t out) (file_of t) out

-- Reading and writing undo each other: the bytes' table, written anywhere with room, gives the bytes; and the table's file, read so, the table.
abbrev pub WritesBack : List ℕ → Type 0
WritesBack bs =
    (out : List ℕ) →
    length bs ≤ length out →
    (write_answer (table_of bs) out ≡ passed (begun bs)) × (write_bytes (table_of bs) out ≡ bs ++ drop (length bs) out)

abbrev pub ReadsBack : List ℕ → Type 0
ReadsBack t =
    (table : List ℕ) →
    length t ≤ length table →
    (read_answer (file_of t) table ≡ passed (row_count t)) × (read_table (file_of t) table ≡ t ++ drop (length t) table)
