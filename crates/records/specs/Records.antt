-- The records of a history file and the rows that they hold (document 01, "Files, program, C host").
-- Assumes nothing.
use Rattle.std.specs.Prelude.{ℕ, zero, suc, ◌+◌, ◌*◌, ◌-◌, ◌/◌, ◌%◌, ◌^◌, ◌≤◌, ◌<◌, ◌≡◌, cond, ltb, eqb, length, get_or, take, drop}
use mathlib.Core.List.{List, [], ◌∷◌, ◌++◌, flat_map}
use Rattle.lists.specs.Lists.{up_to}
use Rattle.history.specs.declared.Row.{Row}
use Rattle.history.specs.Table.{largest_count, row_at, row_count}

-- The n bytes of a number, the lowest first (01, "all little-endian").
unfoldable pub little_endian : ℕ → ℕ → List ℕ
little_endian zero x = []
little_endian (suc n) x = x % 256 ∷ little_endian n (x / 256)

-- The number that some bytes hold, the lowest first (01, "all little-endian").
unfoldable pub value_of : List ℕ → ℕ
value_of [] = 0
value_of (b ∷ bs) = b + 256 * value_of bs

-- The number of n bytes at an offset.
unfoldable pub field : List ℕ → ℕ → ℕ → ℕ
field bs at n = value_of (take n (drop at bs))

-- Each number is below a bound: what the code's types say of bytes, and of a table's numbers.
abbrev pub Below : ℕ → List ℕ → Type 0
Below bound l = (i : ℕ) → get_or l i 0 < bound

abbrev pub Bytes : List ℕ → Type 0
Bytes = Below 256

abbrev pub Words : List ℕ → Type 0
Words = Below (2 ^ 64)

-- The number that a record's length field holds, by the kind, and the length with that field (01, "always 34"; 02, W-207, "length 18").
abbrev pub body_length : ℕ → ℕ
body_length kind = cond (eqb kind 3) 18 34

abbrev pub record_length : ℕ → ℕ
record_length kind = 2 + body_length kind

-- Where the record behind the one at an offset begins, by that one's own length (02, W-207).
abbrev pub next : List ℕ → ℕ → ℕ
next bs at = at + (2 + field bs at 2)

-- The offsets of at most n records that begin in the bytes, from the one at an offset on.
unfoldable pub offsets_from : ℕ → List ℕ → ℕ → List ℕ
offsets_from zero bs at = []
offsets_from (suc n) bs at = cond (ltb at (length bs)) (at ∷ offsets_from n bs (next bs at)) []

-- Those of a file: no record behind the 1,025th is looked at (01, "a 1,025th record").
unfoldable pub offsets : List ℕ → List ℕ
offsets bs = offsets_from (suc largest_count) bs 0

-- How many they are, and where record n begins (01, "at each record").
abbrev pub begun : List ℕ → ℕ
begun bs = length (offsets bs)

abbrev pub offset : List ℕ → ℕ → ℕ
offset bs n = get_or (offsets bs) n 0

-- A pass along the records: it is behind the first i of them, and the one at `at` is next (01, "at each record").
pub record Walked (bs : List ℕ) (i at : ℕ) : Type 0 where
  pub within : i ≤ begun bs
  pub rest : drop i (offsets bs) ≡ offsets_from (1025 - i) bs at

-- A stamp of a row read: 0 for kind 3 (02, W-207).
abbrev pub stamp_of : ℕ → ℕ → ℕ
stamp_of kind x = cond (eqb kind 3) 0 x

-- The row of the record at an offset: behind the length the kind, then register, value, start, finish (01, "A record is length first").
unfoldable pub record_from : List ℕ → ℕ → Row
record_from bs at =
    let kind = field bs (at + 2) 2 in
    record {
      register = field bs (at + 4) 8;
      kind = kind;
      value = field bs (at + 12) 8;
      start = stamp_of kind (field bs (at + 20) 8);
      finish = stamp_of kind (field bs (at + 28) 8);
    }

-- That of record n.
abbrev pub record_at : List ℕ → ℕ → Row
record_at bs n = record_from bs (offset bs n)

-- The bytes of a record up to its value, and those of its stamps (01, "A record is length first").
abbrev pub head_bytes : ℕ → ℕ → ℕ → List ℕ
head_bytes kind register value = little_endian 2 (body_length kind) ++ little_endian 2 kind ++ little_endian 8 register ++ little_endian 8 value

abbrev pub stamp_bytes : ℕ → ℕ → List ℕ
stamp_bytes start finish = little_endian 8 start ++ little_endian 8 finish

-- The bytes of a record that holds a row: that of a kind 3 row has no stamps (01, "A record is length first"; 02, W-207).
unfoldable pub record_of : Row → List ℕ
record_of r = head_bytes r.kind r.register r.value ++ cond (eqb r.kind 3) [] (stamp_bytes r.start r.finish)

-- A record stands at an offset: its kind's length is in its length field, and it is all there (02, W-207).
pub record Stands (bs : List ℕ) (at : ℕ) : Type 0 where
  pub size : field bs at 2 ≡ body_length (field bs (at + 2) 2)
  pub whole : at + record_length (field bs (at + 2) 2) ≤ length bs

-- The five numbers of a row in the table (01, "The row").
abbrev pub cells : Row → List ℕ
cells r = r.register ∷ r.kind ∷ r.value ∷ r.start ∷ r.finish ∷ []

-- The table of a file, and the file of a table: row after row (01, "Files, program, C host").
unfoldable pub table_of : List ℕ → List ℕ
table_of bs = flat_map (λ n. cells (record_at bs n)) (up_to (begun bs))

unfoldable pub file_of : List ℕ → List ℕ
file_of t = flat_map (λ n. record_of (row_at t n)) (up_to (row_count t))
