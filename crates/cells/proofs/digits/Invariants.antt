-- The loop takes byte by byte: what the cell says is what its bytes from here on say behind the value so far (`Digits`).
use Prim.Native.Nat.{max, ◌≤◌}
use lib.ListN.{length}
use Rattle.cells.proofs.Reading.{Digits}
use Rattle.cells.proofs.digits.Given as goal

abbrev pub invariant-loop-i : goal.invariant-loop-i
invariant-loop-i l = Digits l.bytes l.at l.value l.i × (l.i ≤ max l.at (length l.bytes))
