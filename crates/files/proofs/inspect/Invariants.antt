-- The loop inspects the records in sequence: the answer of the whole is the answer from here on (`Inspecting`).
use Prim.Native.Nat.{◌-◌}
use lib.ListN.{length}
use Rattle.files.proofs.Walking.{Inspecting}
use Rattle.files.proofs.inspect.Given as goal

abbrev pub invariant-loop-at : goal.invariant-loop-at
invariant-loop-at l = Inspecting l.bytes l.i l.at

abbrev pub decreases-loop-at : goal.decreases-loop-at
decreases-loop-at l = length l.bytes - l.at
