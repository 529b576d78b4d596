-- The numbers of the listed writes below i stand at the front (`Entered`).
use Rattle.lists.proofs.Entries.{Entered}
use Rattle.zone_list.specs.Stamps.{numbers_at}
use Rattle.zone_list.proofs.put_zones.Given as goal

abbrev pub invariant-loop-i : goal.invariant-loop-i
invariant-loop-i l = Entered (numbers_at l.table l.rows l.columns.finish.now l.columns.chains.writer.now l.late) l.places l.initial.list l.i l.list
