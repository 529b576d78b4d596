-- From the last row down, each write leaves its place at the first holder of its value (`Marking`).
use Rattle.writers.proofs.Marking.{Marking}
use Rattle.writers.proofs.mark.Given as goal

abbrev pub invariant-loop-i : goal.invariant-loop-i
invariant-loop-i l = Marking l.table l.rows l.firsts l.i l.slots
