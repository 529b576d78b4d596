-- The loop looks at the positions in sequence (`Scan`), with what is kept of those before (`Latest`).
use lib.ListN.{length}
use Rattle.lists.specs.Lists.{first}
use Rattle.lists.proofs.Scans.{Scan}
use Rattle.atomicity.specs.Check.{late, lowest_at}
use Rattle.orders.proofs.Latest.{Latest}
use Rattle.orders.proofs.lowest_late.Given as goal

abbrev pub invariant-loop-p : goal.invariant-loop-p
invariant-loop-p l = Scan (lowest_at (late l.table l.list) l.list) (first (λ q. q) (late l.table l.list)) (length l.list) l.p × Latest l.table l.list l.p l.latest l.others
