use Prim.Native.Nat.{◌-◌}
use mathlib.Core.Path.{◌≡◌}
use lib.ListN.{length}
use Rattle.chunking.proofs.Enclosing.{Enclosing}
use Rattle.chunking.proofs.mark_inner.Given as goal

abbrev pub invariant-loop-a : goal.invariant-loop-a
invariant-loop-a l = Enclosing l.zones.finish.now l.zones.late.now l.forwards l.backwards l.a l.i l.marks l.initial.marks × (length l.list ≡ length l.initial.list)

abbrev pub decreases-loop-a : goal.decreases-loop-a
decreases-loop-a l = length l.forwards - l.a
