-- The loop looks at the positions in sequence (`Scan`).
use lib.ListN.{length}
use Rattle.lists.specs.Lists.{first}
use Rattle.lists.proofs.Scans.{Scan}
use Rattle.atomicity.specs.Check.{too_far, lowest_at}
use Rattle.orders.proofs.first_too_far.Given as goal

abbrev pub invariant-loop-p : goal.invariant-loop-p
invariant-loop-p l = Scan (lowest_at (too_far l.k l.table l.list) l.list) (first (λ q. q) (too_far l.k l.table l.list)) (length l.list) l.p
