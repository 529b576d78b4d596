-- What the steps of the call take and leave.
-- Assumes nothing.
use Rattle.std.specs.Prelude.{ℕ, ◌%◌, ◌≤◌, ◌≡◌, List, length}
use Rattle.history.specs.declared.Answer.{Answer}
use Rattle.history.specs.Table.{largest_count, row_count, rows_of}
use Rattle.history.specs.Screen.{screening}
use Rattle.columns.specs.Rows.{Listed}
use Rattle.marks.specs.Marks.{answer_to}

-- the table passes tests 1 and 2
pub record Sound (t : List ℕ) : Type 0 where
  pub whole : length t % 5 ≡ 0
  pub few : row_count t ≤ largest_count

-- rows are those of a register, in table sequence
abbrev pub RowsOf : List ℕ → ℕ → List ℕ → Type 0
RowsOf t register rows = rows ≡ rows_of t register

-- a register is screened with this answer; where that refuses nothing, its rows stand by rising time
pub record Examined (t : List ℕ) (register : ℕ) (met : Answer) (rows : List ℕ) : Type 0 where
  pub answer : met ≡ screening t register
  pub listed : met.code ≡ 0 → Listed t register rows

-- the same of whatever register has the rows
abbrev pub Examines : List ℕ → List ℕ → Answer → List ℕ → Type 0
Examines t rows met after = (register : ℕ) → RowsOf t register rows → Examined t register met after

-- what the marking call answers for whatever register was screened so
abbrev pub Answers : List ℕ → Answer → List ℕ → ℕ → ℕ → Answer → Type 0
Answers t met rows question allowance a = (register : ℕ) → Examined t register met rows → a ≡ answer_to t register question allowance
