-- Past the rows of a whole table every cell is 0.
-- Assumes nothing.
use Prim.Native.Nat.{ℕ, ◌%◌, ◌≤◌}
use mathlib.Core.Path.{◌≡◌}
use mathlib.Core.List.{List}
use native.Mathlib.Omega.{arith}
use lib.ListN.{length, get_or-eq_default}
use Rattle.history.specs.declared.Op.{Op}
use Rattle.history.specs.Table.{cell, row_count, op_at}

module _ (t : List ℕ) (row : ℕ) (whole : length t % 5 ≡ 0) (past : row_count t ≤ row) where
  cell_zero : (column : ℕ) → cell t row column ≡ 0
  cell_zero column = get_or-eq_default t 0 (omega arith)

  abbrev pub zero_op : Op
  zero_op = record { row = row; kind = 0; value = 0; start = 0; finish = 0 }

  pub no_row : zero_op ≡ op_at t row
  unfolding op_at
  no_row = rw (cell_zero 1, cell_zero 2, cell_zero 3, cell_zero 4)
