use Rattle.placing.specs.States.{state_of, plus_one}
use Rattle.placing.proofs.Passing.{Passing}
use Rattle.placing.proofs.scan.Given as goal

abbrev pub invariant-loop-i : goal.invariant-loop-i
invariant-loop-i l = Passing l.columns.start.now l.columns.chains.writer.now l.w l.bound (state_of l.initial.placed l.initial.order l.initial.at l.initial.i) (state_of l.placed l.order l.at l.i) (plus_one l.asked)
