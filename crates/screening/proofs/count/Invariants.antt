-- The rows of the register among the first i are counted.
use Prim.Native.Nat.{◌≤◌}
use mathlib.Core.Path.{◌≡◌}
use Rattle.screening.proofs.Loops.{counted}
use Rattle.screening.proofs.count.Given as goal

abbrev pub invariant-loop-i : goal.invariant-loop-i
invariant-loop-i l = (l.rows ≤ l.i) × (l.rows ≡ counted l.table l.register l.i)
