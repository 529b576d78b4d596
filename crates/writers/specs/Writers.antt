-- The write of each row, as a position among the rows.
-- Assumes nothing.
use Rattle.std.specs.Prelude.{ℕ, suc, ◌+◌, ◌*◌, ◌≤◌, Bool, false, cond, length, get_or, eqb}
use mathlib.Core.List.{List, [], ◌∷◌, Memᴰ as In}
use Rattle.history.specs.declared.Op.{Op}
use Rattle.history.specs.Table.{op_at, is_write}

-- rows of the table
abbrev pub Within : List ℕ → List ℕ → Type 0
Within t rows = (x : ℕ) → In x rows → x * 5 + 5 ≤ length t

-- the operation is a write of the value; the row's is
unfoldable pub writes : ℕ → Op → Bool
writes value o = cond (is_write o) (eqb o.value value) false

abbrev pub writes_at : List ℕ → ℕ → ℕ → Bool
writes_at t value x = writes value (op_at t x)

-- the position of the first element that passes; the length where none does
unfoldable pub seek : (ℕ → Bool) → List ℕ → ℕ
seek P [] = 0
seek P (x ∷ l) = cond (P x) 0 (suc (seek P l))

-- the position of a row's write
abbrev pub writer_of : List ℕ → List ℕ → ℕ → ℕ
writer_of t rows x = seek (writes_at t (op_at t x).value) rows

-- the value of a row
abbrev pub value_of : List ℕ → ℕ → ℕ
value_of t x = (op_at t x).value

-- the operation of the row at a position
abbrev pub row_op : List ℕ → List ℕ → ℕ → Op
row_op t rows j = op_at t (get_or rows j 0)
