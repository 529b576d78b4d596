-- The loop adds the length of a record a turn (`Measuring`).
use Prim.Native.Nat.{◌/◌}
use lib.ListN.{length}
use Rattle.files.proofs.Measuring.{Measuring}
use Rattle.files.proofs.file_length.Given as goal

abbrev pub invariant-loop-i : goal.invariant-loop-i
invariant-loop-i l = Measuring l.table (length l.table / 5) l.i l.total
