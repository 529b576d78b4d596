-- What the examination of rows is given, and what it leaves.
-- Assumes nothing.
use Rattle.std.specs.Prelude.{ℕ, ◌≤◌, ◌≡◌, List, length, take}
use Rattle.history.specs.Table.{rows_of, history}
use Rattle.conditions.specs.Tests.{Listed}

-- rows of the table, rising, and places for what is made of them
pub record Ready (t rows writer : List ℕ) : Type 0 where
  pub listed : Listed t rows
  pub room_writer : length writer ≡ length rows

-- the rows of the register in table sequence stand at the front
pub record Gathered (t : List ℕ) (register : ℕ) (rows : List ℕ) : Type 0 where
  pub room : length (history t register) ≤ length rows
  pub front : take (length (history t register)) rows ≡ rows_of t register
