-- The rows of a table by register, and where a register's own stand among them (document 02, W-204).
-- Assumes nothing.
use Rattle.std.specs.Prelude.{ℕ, ◌+◌, ◌≤◌, ◌<◌, ◌≡◌, ◌≢◌, Bool, List, leb, length, get_or, take, drop}
use Rattle.lists.specs.Lists.{up_to}
use Rattle.lists.specs.Sorts.{sort}
use Rattle.history.specs.Table.{row_count}
use Rattle.grouping.specs.Registers.{register_at, register_column, registers}

-- the register of row i is no higher than that of row j
abbrev pub no_higher : List ℕ → ℕ → ℕ → Bool
no_higher t i j = leb (register_at t i) (register_at t j)

-- the rows by register, those of one register in table sequence
unfoldable pub by_register : List ℕ → List ℕ
by_register t = sort (no_higher t) (up_to (row_count t))

-- the register of each row, and the rows by register
pub record Grouped (t keys rows : List ℕ) : Type 0 where
  pub keyed : keys ≡ register_column t
  pub grouped : rows ≡ by_register t

-- so many numbers at the front of a list are these, and all of them
abbrev pub Front : ℕ → List ℕ → List ℕ → Type 0
Front count list numbers = (count ≡ length numbers) × (take count list ≡ numbers)

-- those are the registers of whatever table is grouped so
abbrev pub Lists : List ℕ → List ℕ → ℕ → List ℕ → Type 0
Lists keys rows count list = (t : List ℕ) → Grouped t keys rows → Front count list (registers t)

-- the register of the row at a place
abbrev pub register_of : List ℕ → List ℕ → ℕ → ℕ
register_of t rows k = register_at t (get_or rows k 0)

-- the rows before a place have lower registers, those from it on none
pub record Sought (t rows : List ℕ) (register place : ℕ) : Type 0 where
  pub within : place ≤ length rows
  pub below : (k : ℕ) → k < place → register_of t rows k < register
  pub behind : (k : ℕ) → place ≤ k → k < length rows → register ≤ register_of t rows k

-- the rows from a place on that have the register, up to the first that has another, at the front of a list
pub record Run (t rows : List ℕ) (register from count : ℕ) (list : List ℕ) : Type 0 where
  pub within : from + count ≤ length rows
  pub front : take count list ≡ take count (drop from rows)
  pub has : (k : ℕ) → k < count → register_of t rows (from + k) ≡ register
  pub ends : from + count < length rows → register_of t rows (from + count) ≢ register
