-- The measure is the room in the order.
use Rattle.positions.specs.View.{view}
use Rattle.placing.specs.States.{state_of}
use Rattle.lbt.proofs.Running.{Running}
use Rattle.lbt.proofs.epoch.Given as goal

abbrev pub invariant-steps : goal.invariant-steps
invariant-steps l = Running (view l.columns) l.w (state_of l.initial.placed l.initial.order l.initial.reached.at l.initial.reached.top) l.v (state_of l.placed l.order l.reached.at l.reached.top)

abbrev pub decreases-steps : goal.decreases-steps
decreases-steps l = l.reached.at
