-- Each turn gives the next rank to a start or to a finish (`Merging`).
use Prim.Native.Nat.{◌*◌, ◌-◌}
use lib.ListN.{length}
use Rattle.ranking.proofs.Merging.{Merging}
use Rattle.ranking.proofs.merge.Given as goal

abbrev pub invariant-loop-j : goal.invariant-loop-j
invariant-loop-j l = Merging l.initial.start l.initial.finish l.list l.i l.j l.start l.finish

abbrev pub decreases-loop-j : goal.decreases-loop-j
decreases-loop-j l = 2 * length l.list - l.i - l.j
