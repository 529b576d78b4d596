-- The history (document 01, "The row"; 000, section II.A): one list of numbers, five a row, and the operations of one register.
-- Assumes nothing.
use Rattle.std.specs.Prelude.{ℕ, ◌+◌, ◌*◌, ◌-◌, ◌/◌, ◌^◌, ◌<◌, ◌≡◌, ◌⊎◌, Bool, true, false, not, ◌&&◌, ◌||◌, List, map, ltb, eqb, length, get_or}
use Rattle.lists.specs.Lists.{up_to, keep}
use Rattle.history.specs.declared.Row.{Row}
use Rattle.history.specs.declared.Op.{Op}

-- The largest stamp, and the most rows of a table (01, "The row").
abbrev pub largest_stamp : ℕ
largest_stamp = 2 ^ 62 - 1

abbrev pub largest_count : ℕ
largest_count = 1024

-- Five numbers a row: register, kind, value, start, finish (01, "The row").
abbrev pub cell : List ℕ → ℕ → ℕ → ℕ
cell t i column = get_or t (i * 5 + column) 0

abbrev pub row_at : List ℕ → ℕ → Row
row_at t i = record { register = cell t i 0; kind = cell t i 1; value = cell t i 2; start = cell t i 3; finish = cell t i 4 }

abbrev pub row_count : List ℕ → ℕ
row_count t = length t / 5

-- An operation is a row without its register, with the row's number (01, "The row").
abbrev pub operation : Row → ℕ → Op
operation r i = record { row = i; kind = r.kind; value = r.value; start = r.start; finish = r.finish }

unfoldable pub op_at : List ℕ → ℕ → Op
op_at t i = operation (row_at t i) i

-- Row i exists and bears the register: as a statement, and as a test of a row that exists.
pub record RowOf (t : List ℕ) (register i : ℕ) : Type 0 where
  pub exists : i < row_count t
  pub bears : cell t i 0 ≡ register

unfoldable pub bears : List ℕ → ℕ → ℕ → Bool
bears t register i = eqb (cell t i 0) register

-- The rows of a register, rising, and its operations in that sequence.
unfoldable pub rows_of : List ℕ → ℕ → List ℕ
rows_of t register = keep (bears t register) (up_to (row_count t))

unfoldable pub history : List ℕ → ℕ → List Op
history t register = map (op_at t) (rows_of t register)

-- Two tables of one length with the same rows of the register at the same places (01, "The row").
pub record Alike (t u : List ℕ) (register : ℕ) : Type 0 where
  pub size : length t ≡ length u
  pub kept : (i : ℕ) → RowOf t register i → RowOf u register i × (row_at t i ≡ row_at u i)
  pub no_more : (i : ℕ) → RowOf u register i → RowOf t register i

-- Kind 3 is the opening, which is counted as a write everywhere (02, W-207); kind 1 is a write, kind 2 a read (01, "The row").
unfoldable pub is_opening : Op → Bool
is_opening o = eqb o.kind 3

unfoldable pub is_write : Op → Bool
is_write o = eqb o.kind 1 || is_opening o

unfoldable pub is_read : Op → Bool
is_read o = eqb o.kind 2

-- a precedes b: a finishes before b starts (01, "The row"; 000, section II.A), or a is the opening and b is not (02, W-207). As a statement,
-- and as a test.
abbrev pub Precedes : Op → Op → Type 0
Precedes a b = (a.finish < b.start) ⊎ ((is_opening a ≡ true) × (is_opening b ≡ false))

unfoldable pub precedes : Op → Op → Bool
precedes a b = ltb a.finish b.start || (is_opening a && not (is_opening b))

-- w is the dictating write of r: the write of its value (01, "The row"; 000, section II.A). As a statement, and as a test.
pub record Dictates (w r : Op) : Type 0 where
  pub writes : is_write w ≡ true
  pub reads : r.kind ≡ 2
  pub same : w.value ≡ r.value

unfoldable pub dictates : Op → Op → Bool
dictates w r = is_write w && is_read r && eqb w.value r.value
