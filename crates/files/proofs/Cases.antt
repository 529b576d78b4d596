-- Files with known answers (document 01, "Files, program, C host"): one table, and one theorem.
-- Assumes nothing.
use Prim.Native.Nat.{ℕ}
use mathlib.Core.Path.{◌≡◌, refl}
use mathlib.Core.List.{List, [], ◌∷◌, ◌++◌, map, flat_map}
use Rattle.lists.specs.Lists.{from, first}
use Rattle.history.specs.declared.Answer.{Answer}
use Rattle.history.specs.Table.{op_at, is_opening, is_write, is_read}
use Rattle.history.specs.Answer.{first_met, passed, refused_by}
use Rattle.history.specs.Screen.{wrong_kind, stray_opening}
use Rattle.records.specs.Records.{little_endian, value_of, field, offsets_from, offsets, record_from, record_of, table_of, file_of}
use Rattle.files.specs.Files.{mismatched, record_tests, file_tests, read_tests, read_answer, read_table, ops_of, write_tests, write_answer, write_bytes}

-- What a call gives: its answer, and the lent list after it.
pub record Gives : Type 0 where
  pub answer : Answer
  pub list : List ℕ

abbrev gives : Answer → List ℕ → Gives
gives answer list = record { answer = answer; list = list }

-- A call and what it gives. The table lent to a reading has six places.
pub record Case : Type 0 where
  pub given : Gives
  pub known : Gives

abbrev lent : List ℕ
lent = 91 ∷ 92 ∷ 93 ∷ 94 ∷ 95 ∷ 96 ∷ []

abbrev reads : List ℕ → Answer → List ℕ → Case
reads bs answer list = record { given = gives (read_answer bs lent) (read_table bs lent); known = gives answer list }

abbrev writes : List ℕ → List ℕ → Answer → List ℕ → Case
writes t out answer list = record { given = gives (write_answer t out) (write_bytes t out); known = gives answer list }

-- a record of some kind: register 7, value 258, start 3, finish 2^56
abbrev whole : ℕ → List ℕ
whole kind =
    34 ∷ 0 ∷ kind ∷ 0 ∷ []
    ++ 7 ∷ 0 ∷ 0 ∷ 0 ∷ 0 ∷ 0 ∷ 0 ∷ 0 ∷ []
    ++ 2 ∷ 1 ∷ 0 ∷ 0 ∷ 0 ∷ 0 ∷ 0 ∷ 0 ∷ []
    ++ 3 ∷ 0 ∷ 0 ∷ 0 ∷ 0 ∷ 0 ∷ 0 ∷ 0 ∷ []
    ++ 0 ∷ 0 ∷ 0 ∷ 0 ∷ 0 ∷ 0 ∷ 0 ∷ 1 ∷ []

-- a short one: register 7, value 258
abbrev short : ℕ → List ℕ
short kind = 18 ∷ 0 ∷ kind ∷ 0 ∷ [] ++ 7 ∷ 0 ∷ 0 ∷ 0 ∷ 0 ∷ 0 ∷ 0 ∷ 0 ∷ [] ++ 2 ∷ 1 ∷ 0 ∷ 0 ∷ 0 ∷ 0 ∷ 0 ∷ 0 ∷ []

abbrev opening : List ℕ
opening = 7 ∷ 3 ∷ 258 ∷ 0 ∷ 0 ∷ []

abbrev row : ℕ → List ℕ
row kind = 7 ∷ kind ∷ 258 ∷ 3 ∷ 72057594037927936 ∷ []

unfoldable pub cases : List Case
cases =
    reads [] (passed 0) lent
    ∷ reads (34 ∷ []) (refused_by 16 0) lent
    ∷ reads (35 ∷ 0 ∷ []) (refused_by 17 0) lent
    ∷ reads (34 ∷ 0 ∷ []) (refused_by 16 0) lent
    ∷ reads (18 ∷ 0 ∷ []) (refused_by 16 0) lent
    ∷ reads (whole 3) (refused_by 17 0) lent
    ∷ reads (short 1) (refused_by 17 0) lent
    ∷ reads (short 2) (refused_by 17 0) lent
    ∷ reads (whole 1 ++ 34 ∷ []) (refused_by 16 36) lent
    ∷ reads (short 3 ++ 34 ∷ []) (refused_by 16 20) lent
    ∷ reads (short 3 ++ whole 1 ++ whole 4) (refused_by 17 56) lent
    ∷ reads (whole 1 ++ whole 2) (refused_by 10 0) lent
    ∷ reads (whole 2) (passed 1) (row 2 ++ 96 ∷ [])
    ∷ reads (short 3) (passed 1) (opening ++ 96 ∷ [])
    ∷ writes (row 2) (whole 1 ++ 97 ∷ []) (passed 1) (whole 2 ++ 97 ∷ [])
    ∷ writes opening (short 1 ++ 97 ∷ []) (passed 1) (short 3 ++ 97 ∷ [])
    ∷ writes (opening ++ row 1) (whole 1 ++ short 1 ++ 97 ∷ []) (passed 2) (short 3 ++ whole 1 ++ 97 ∷ [])
    ∷ writes (row 3 ++ row 4) lent (refused_by 4 1) lent
    ∷ writes (row 1 ++ row 3) lent (refused_by 5 1) lent
    ∷ writes (row 1) lent (refused_by 10 0) lent
    ∷ writes opening lent (refused_by 10 0) lent
    ∷ []

pub known_files : map (λ x. x.given) cases ≡ map (λ x. x.known) cases
unfolding cases read_answer read_table read_tests file_tests record_tests mismatched write_answer write_bytes write_tests ops_of first_met flat_map from first wrong_kind stray_opening is_opening is_write is_read op_at little_endian value_of field offsets_from offsets record_from record_of table_of file_of
known_files = refl
