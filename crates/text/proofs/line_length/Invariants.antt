-- The loop adds up the numbers, each with the byte next to it: what numbers take behind commas is what was added and what those from here on take.
use Prim.Native.Nat.{◌+◌, ◌*◌, ◌≤◌}
use mathlib.Core.Path.{◌≡◌}
use lib.ListN.{length, drop}
use Rattle.text.specs.Decimal.{behind}
use Rattle.text.proofs.line_length.Given as goal

abbrev pub invariant-loop-n : goal.invariant-loop-n
invariant-loop-n l = (l.total ≤ 21 * l.n-index) × (length (behind l.numbers) ≡ l.total + length (behind (drop l.n-index l.numbers)))
