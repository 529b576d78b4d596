use Rattle.chunking.proofs.Marking.{Marking}
use Rattle.chunking.proofs.mark.Given as goal

abbrev pub invariant-loop-w : goal.invariant-loop-w
invariant-loop-w l = Marking l.list l.w-index l.marks l.initial.marks
