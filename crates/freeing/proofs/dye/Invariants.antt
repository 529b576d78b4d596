use Rattle.freeing.proofs.Dyeing.{Dyeing}
use Rattle.freeing.proofs.dye.Given as goal

abbrev pub invariant-loop-k : goal.invariant-loop-k
invariant-loop-k l = Dyeing l.chains.writer.now l.w l.mark l.k l.initial.placed l.placed

abbrev pub decreases-loop-k : goal.decreases-loop-k
decreases-loop-k l = l.k
