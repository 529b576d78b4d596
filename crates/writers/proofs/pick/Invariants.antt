-- The loop fills the column from the slots (`Filled`).
use Rattle.lists.proofs.Filled.{Filled}
use Rattle.writers.specs.Writers.{writer_of}
use Rattle.writers.proofs.pick.Given as goal

abbrev pub invariant-loop-i : goal.invariant-loop-i
invariant-loop-i l = Filled (writer_of l.table l.rows) l.rows l.initial.out l.i l.out
