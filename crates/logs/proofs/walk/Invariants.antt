-- As long as the cells are numbers, what the line gives is what it gives from here on (`Walking`), and at another cell `walk_on` gives it.
use Prim.Native.Nat.{◌+◌, ◌-◌}
use lib.ListN.{length}
use Rattle.std.specs.Prelude.{None}
use Rattle.logs.specs.Steps.{no_row, walked}
use Rattle.logs.proofs.Walking.{Walking}
use Rattle.logs.proofs.walk.Given as goal

abbrev pub invariant-loop-x : goal.invariant-loop-x
invariant-loop-x l = Walking l.bytes l.columns (walked l.bytes l.columns no_row 0 l.at None) l.row None l.k l.from

abbrev pub decreases-loop-x : goal.decreases-loop-x
decreases-loop-x l = length l.bytes + 1 - l.from
