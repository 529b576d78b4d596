-- The front of the list that is left is what the iterator has.
use mathlib.Core.Path.{◌≡◌}
use lib.ListN.{length, take}
use Rattle.placing.specs.States.{state_of}
use Rattle.zone_method.proofs.Laying.{Laying}
use Rattle.zone_method.proofs.lay.Given as goal

abbrev pub invariant-loop-w : goal.invariant-loop-w
invariant-loop-w l =
    (goal.iterator-loop-w).can_next l.w-iterator × (goal.iterator-loop-w).is_finite l.w-iterator
    × (l.w-iterator.iter.rest.now ≡ take (length l.w-iterator.iter.rest.now) l.list)
    × Laying l.chains.writer.now l.list (state_of l.initial.placed l.initial.order l.initial.at (length l.chains.writer.now)) (length l.w-iterator.iter.rest.now) (state_of l.placed l.order l.at (length l.chains.writer.now))
