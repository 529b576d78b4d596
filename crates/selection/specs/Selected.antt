-- The rows of one register of a history file (document 01, "Files, program, C host"): which they are, and what reading these alone answers and leaves.
-- Assumes nothing.
use Rattle.std.specs.Prelude.{ℕ, ◌*◌, ◌+◌, ◌≤◌, ◌<◌, ◌≡◌, ◌≢◌, Bool, true, cond, not, ◌&&◌, ◌||◌, leb, eqb, length, take, drop, Option, MatchOption}
use mathlib.Core.List.{List, [], ◌∷◌, ◌++◌, map, flat_map}
use Rattle.lists.specs.Lists.{keep, up_to}
use Rattle.history.specs.declared.Answer.{Answer}
use Rattle.history.specs.Table.{largest_count, operation}
use Rattle.history.specs.Answer.{Test, first_met, passed}
use Rattle.records.specs.Records.{field, begun, offset, Walked, record_from, record_at, cells}
use Rattle.files.specs.Files.{Whole, left, mismatched, file_tests, room_test, after}

-- the record at an offset has a kind that goes with its length, and is all there (01, "Reading tests at each record, in sequence"; 02, W-207)
unfoldable pub is_sound : List ℕ → ℕ → Bool
is_sound bs at = not (mismatched (field bs at 2) (operation (record_from bs at) 0)) && leb (2 + field bs at 2) (left bs at)

-- the bytes of a sound record, and 0 of any other
unfoldable pub extent_at : List ℕ → ℕ → ℕ
extent_at bs at = cond (is_sound bs at) (2 + field bs at 2) 0

-- the same of record n, and 0 of a 1,025th (01, "a 1,025th record")
unfoldable pub step_at : List ℕ → ℕ → ℕ → ℕ
step_at bs n at = cond (leb largest_count n) 0 (extent_at bs at)

-- the first four bytes as one number, the length above the kind: 34 with 1 and 2 is that of a record with stamps, 18 with 3 an opening's
abbrev pub head_at : List ℕ → ℕ → ℕ
head_at bs at = field bs (at + 2) 2 + 65536 * field bs at 2

unfoldable pub plain : ℕ → Bool
plain head = eqb head 2228225 || eqb head 2228226

unfoldable pub extent_by : ℕ → ℕ
extent_by head = cond (plain head) 36 (cond (eqb head 1179651) 20 0)

-- the bytes as the code says them: none where they are 0
abbrev pub Extent : ℕ → Option ℕ → Type 0
Extent n r = MatchOption r (n ≡ 0) (λ size. (size ≡ n) × (size ≢ 0))

-- record n bears the register
unfoldable pub is_of : List ℕ → ℕ → ℕ → Bool
is_of bs register n = eqb (record_at bs n).register register

-- the records of the register, rising, and the table of their rows alone
unfoldable pub records_of : List ℕ → ℕ → List ℕ
records_of bs register = keep (is_of bs register) (up_to (begun bs))

unfoldable pub register_table : List ℕ → ℕ → List ℕ
register_table bs register = flat_map (λ n. cells (record_at bs n)) (records_of bs register)

-- What finding these answers: the first test of the whole file that is met, or the count of the register's rows (01, "Files, program, C host").
unfoldable pub find_answer : List ℕ → ℕ → Answer
find_answer bs register = first_met (file_tests bs) (passed (length (records_of bs register)))

-- Some offsets are those of the register's records, rising, in a file that passes its tests (01, "Files, program, C host").
pub record Placed (bs : List ℕ) (register : ℕ) (places : List ℕ) : Type 0 where
  pub whole : Whole bs
  pub each : places ≡ map (offset bs) (records_of bs register)

-- The rows of the records at some offsets, one behind the other, and a lent table with these at its front (01, "Files, program, C host").
abbrev pub rows_at : List ℕ → List ℕ → List ℕ
rows_at bs places = flat_map (λ at. cells (record_from bs at)) places

abbrev pub copied : List ℕ → List ℕ → List ℕ → List ℕ
copied bs places table = rows_at bs places ++ drop (length (rows_at bs places)) table

-- Reading these alone: the tests of the whole file, and then that of the room for the register's rows (01's table, 10).
unfoldable pub select_tests : List ℕ → ℕ → ℕ → List Test
select_tests bs register room = file_tests bs ++ (room_test (length (records_of bs register) * 5) room ∷ [])

unfoldable pub select_answer : List ℕ → ℕ → List ℕ → Answer
select_answer bs register table = first_met (select_tests bs register (length table)) (passed (length (records_of bs register)))

unfoldable pub select_table : List ℕ → ℕ → List ℕ → List ℕ
select_table bs register table = after (select_answer bs register table) (register_table bs register) table

-- the file is sound, and the offsets of the register's m records stand at the front
pub record Picked (bs : List ℕ) (register : ℕ) (picks : List ℕ) (m : ℕ) : Type 0 where
  pub whole : Whole bs
  pub count : m ≡ length (records_of bs register)
  pub front : take m picks ≡ map (offset bs) (records_of bs register)

-- what one pass over the records finds: that, or a file that is refused
abbrev pub Picks : List ℕ → ℕ → List ℕ → Option ℕ → Type 0
Picks bs register picks r = MatchOption r (Whole bs → ⊥) (Picked bs register picks)

-- along the way: the first i records are sound, the next one is at an offset, and the places of m of them, which bear the register, are kept
pub record Picking (bs : List ℕ) (register i at m : ℕ) (picks : List ℕ) : Type 0 where
  pub few : m ≤ i
  pub most : i ≤ largest_count
  pub near : at ≤ i * 36
  pub inside : at ≤ length bs
  pub long : length picks ≡ largest_count
  pub walked : Walked bs i at
  pub sound : (j : ℕ) → j < i → is_sound bs (offset bs j) ≡ true
  pub front : take m picks ≡ map (offset bs) (keep (is_of bs register) (up_to i))
