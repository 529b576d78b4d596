use Rattle.lbt.proofs.Running.{Clearing}
use Rattle.lbt.proofs.clear.Given as goal

abbrev pub invariant-loop-j : goal.invariant-loop-j
invariant-loop-j l = Clearing l.ops l.initial.placed l.j-index l.placed
