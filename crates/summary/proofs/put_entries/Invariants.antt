-- The entries of the registers passed stand at the front (`Entered`).
use Rattle.lists.proofs.Entries.{Entered}
use Rattle.summary.specs.Summary.{entry}
use Rattle.summary.proofs.put_entries.Given as goal

abbrev pub invariant-loop-i : goal.invariant-loop-i
invariant-loop-i l = Entered (entry l.road.table.now) l.registers l.initial.list l.i l.list
