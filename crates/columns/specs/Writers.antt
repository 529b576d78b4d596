-- What the column of writers is known to be.
-- Assumes nothing.
use Rattle.std.specs.Prelude.{ℕ, ◌<◌, ◌≡◌, true, List, length, get_or}
use Rattle.history.specs.declared.Op.{Op}
use Rattle.history.specs.Table.{is_write}
use Rattle.positions.specs.Columns.{op}

-- positions of writes of the same value, the only ones
pub record Tied (H : List Op) (writer : List ℕ) : Type 0 where
  pub long : length writer ≡ length H
  pub inside : (j : ℕ) → j < length H → get_or writer j 0 < length H
  pub write : (j : ℕ) → j < length H → is_write (op H (get_or writer j 0)) ≡ true
  pub value : (j : ℕ) → j < length H → (op H (get_or writer j 0)).value ≡ (op H j).value
  pub one : (i j : ℕ) → i < length H → j < length H → is_write (op H i) ≡ true → (op H i).value ≡ (op H j).value → get_or writer j 0 ≡ i
