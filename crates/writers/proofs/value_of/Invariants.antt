-- The loop fills the column with the values (`Filled`).
use Rattle.lists.proofs.Filled.{Filled}
use Rattle.writers.specs.Writers.{value_of}
use Rattle.writers.proofs.value_of.Given as goal

abbrev pub invariant-loop-i : goal.invariant-loop-i
invariant-loop-i l = Filled (value_of l.table) l.rows l.initial.out l.i l.out
