-- The loop goes from cell to cell: what the header gives is what it gives from here on, behind what was found so far (`Heading`).
use Prim.Native.Nat.{◌+◌, ◌-◌}
use lib.ListN.{length}
use Rattle.headers.proofs.Heading.{Heading}
use Rattle.headers.proofs.read_header.Given as goal

abbrev pub invariant-loop-named : goal.invariant-loop-named
invariant-loop-named l = Heading l.bytes l.named l.k l.at

abbrev pub decreases-loop-named : goal.decreases-loop-named
decreases-loop-named l = length l.bytes + 1 - l.at
