use lib.ListN.{length}
use Rattle.placing.specs.States.{state_of}
use Rattle.placing.proofs.Linking.{Linking}
use Rattle.placing.proofs.own.Given as goal

abbrev pub invariant-loop-k : goal.invariant-loop-k
invariant-loop-k l = Linking l.chains.writer.now l.w l.k (state_of l.initial.placed l.initial.order l.initial.at (length l.chains.writer.now)) (state_of l.placed l.order l.at (length l.chains.writer.now))

abbrev pub decreases-loop-k : goal.decreases-loop-k
decreases-loop-k l = l.k
