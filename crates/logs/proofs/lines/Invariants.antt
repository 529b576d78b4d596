-- The loop goes from line to line: the answer of them all is the answer from here on, and their rows are left to be stored (`Loading`).
use Prim.Native.Nat.{◌-◌}
use lib.ListN.{length}
use Rattle.logs.proofs.Loading.{Loading}
use Rattle.logs.proofs.lines.Given as goal

abbrev pub invariant-loop-at : goal.invariant-loop-at
invariant-loop-at l = Loading l.bytes l.columns l.width l.start l.initial.table l.n l.at l.table

abbrev pub decreases-loop-at : goal.decreases-loop-at
decreases-loop-at l = length l.bytes - l.at
