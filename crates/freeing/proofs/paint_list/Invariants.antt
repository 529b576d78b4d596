use Rattle.freeing.proofs.Painting.{Painting}
use Rattle.freeing.proofs.paint_list.Given as goal

abbrev pub invariant-loop-w : goal.invariant-loop-w
invariant-loop-w l = Painting l.chains.writer.now l.list l.mark l.w-index l.initial.placed l.placed
