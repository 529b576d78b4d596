-- The four ways out and the two ways on are the laws of `Turning`.
use Prim.Native.Nat.{◌+◌}
use Rattle.positions.specs.View.{view}
use Rattle.placing.specs.States.{state_of}
use Rattle.lbt.proofs.Turning.{Turning}
use Rattle.lbt.proofs.round.Given as goal

abbrev pub invariant-loop-i : goal.invariant-loop-i
invariant-loop-i l = Turning (view l.columns) (state_of l.initial.placed l.initial.order l.front.at l.front.top) (l.last + 1) l.trials l.allowance l.falling l.placed l.order l.i l.count
