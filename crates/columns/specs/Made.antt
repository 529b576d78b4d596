-- What filling the columns takes and leaves.
-- Assumes nothing.
use Rattle.std.specs.Prelude.{ℕ, ◌≡◌, List, length}
use Rattle.history.specs.Table.{history}
use Rattle.methods.specs.Prepared.{prepared}
use Rattle.positions.specs.Columns.{Cols, Linked, Of}
use Rattle.columns.specs.Rows.{Listed}

-- five slices as long as the rows
pub record Room (rows start finish writer last prev : List ℕ) : Type 0 where
  pub room_start : length start ≡ length rows
  pub room_finish : length finish ≡ length rows
  pub room_writer : length writer ≡ length rows
  pub room_last : length last ≡ length rows
  pub room_prev : length prev ≡ length rows

-- the columns are those of the prepared history of the register that has the rows, and its reads are chained
pub record Made (t rows : List ℕ) (C : Cols) : Type 0 where
  pub columns : (register : ℕ) → Listed t register rows → Of C (prepared (history t register))
  pub chains : Linked C.writer C.last C.prev
