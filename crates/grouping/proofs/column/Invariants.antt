-- The loop fills the slice, a place for each row (`Filled`).
use Rattle.lists.specs.Lists.{up_to}
use Rattle.lists.proofs.Filled.{Filled}
use Rattle.history.specs.Table.{row_count}
use Rattle.grouping.specs.Registers.{register_at}
use Rattle.grouping.proofs.column.Given as goal

abbrev pub invariant-loop-i : goal.invariant-loop-i
invariant-loop-i l = Filled (register_at l.table) (up_to (row_count l.table)) l.initial.keys l.i l.keys
