-- The rows that the columns are made from.
-- Assumes nothing.
use Rattle.std.specs.Prelude.{ℕ, ◌≡◌, length, get_or}
use mathlib.Core.List.{List, Memᴰ as In}
use Rattle.history.specs.Table.{op_at, history}
use Rattle.history.specs.Screen.{Screened}
use Rattle.methods.specs.Ranks.{starting}
use Rattle.methods.specs.Mark.{row_numbers}
use Rattle.preparation.specs.Times.{time_of, by_time}

-- the time of the start of each of the rows stands at the place of its row
pub record Keyed (t rows keys : List ℕ) : Type 0 where
  pub keyed : (x : ℕ) → In x rows → get_or keys x 0 ≡ time_of (starting (op_at t x))

-- the rows of a screened register, by rising time
pub record Listed (t : List ℕ) (register : ℕ) (rows : List ℕ) : Type 0 where
  pub screened : Screened (length t) (history t register)
  pub listed : rows ≡ row_numbers (by_time (history t register))
