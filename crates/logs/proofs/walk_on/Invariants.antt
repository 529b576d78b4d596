-- The loop goes from cell to cell: what the line gives is what it gives from here on, behind what its cells gave so far (`Walking`).
use Prim.Native.Nat.{◌+◌, ◌-◌}
use lib.ListN.{length}
use Rattle.std.specs.Prelude.{None}
use Rattle.logs.specs.Steps.{walked}
use Rattle.logs.proofs.Walking.{Walking}
use Rattle.logs.proofs.walk_on.Given as goal

abbrev pub invariant-loop-columns : goal.invariant-loop-columns
invariant-loop-columns l = Walking l.bytes l.columns (walked l.bytes l.columns l.initial.row l.count l.at None) l.row l.fault l.k l.from

abbrev pub decreases-loop-columns : goal.decreases-loop-columns
decreases-loop-columns l = length l.bytes + 1 - l.from
