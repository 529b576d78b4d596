-- The measure is the room in the order.
use Rattle.positions.specs.View.{view}
use Rattle.placing.specs.States.{state_of}
use Rattle.lbt.proofs.Walking.{Walking}
use Rattle.lbt.proofs.search.Given as goal

abbrev pub invariant-rounds : goal.invariant-rounds
invariant-rounds l = Walking (view l.columns) l.falling l.allowance (state_of l.initial.placed l.initial.order l.initial.front.at l.initial.front.top) (state_of l.placed l.order l.front.at l.front.top) l.low l.from l.trials

abbrev pub decreases-rounds : goal.decreases-rounds
decreases-rounds l = l.front.at
