-- The place is sought in halves (`Seeking`).
use Prim.Native.Nat.{◌-◌}
use Rattle.grouping.proofs.Rows.{Seeking}
use Rattle.grouping.proofs.seek.Given as goal

abbrev pub invariant-loop-low : goal.invariant-loop-low
invariant-loop-low l = Seeking l.table l.grouped l.register l.low l.high

abbrev pub decreases-loop-low : goal.decreases-loop-low
decreases-loop-low l = l.high - l.low
