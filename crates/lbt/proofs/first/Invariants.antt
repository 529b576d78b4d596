use Rattle.lbt.specs.Rounds.{Skipped}
use Rattle.lbt.proofs.first.Given as goal

abbrev pub invariant-loop-i : goal.invariant-loop-i
invariant-loop-i l = Skipped l.falling l.placed l.i
