use lib.ListN.{length}
use Rattle.positions.specs.View.{view}
use Rattle.placing.specs.States.{state_of}
use Rattle.choice.proofs.Sequence.{Placing}
use Rattle.choice.proofs.viable.Given as goal

abbrev pub invariant-loop-i : goal.invariant-loop-i
invariant-loop-i l = Placing (view l.columns) l.turn (state_of l.initial.placed l.initial.order (length l.initial.order) l.top) l.i (state_of l.placed l.order l.front.at l.front.top)
