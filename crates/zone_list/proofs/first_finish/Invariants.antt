-- The reads left on the chain are those below k (`Walked`).
use Rattle.zone_list.proofs.Walking.{Walked}
use Rattle.zone_list.proofs.first_finish.Given as goal

abbrev pub invariant-loop-k : goal.invariant-loop-k
invariant-loop-k l = Walked l.table l.rows l.columns.chains.writer.now l.w l.k l.finish

abbrev pub decreases-loop-k : goal.decreases-loop-k
decreases-loop-k l = l.k
