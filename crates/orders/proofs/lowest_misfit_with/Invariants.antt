-- The loop looks at the positions in sequence (`Scan`), and marks the row of each (`Seen`).
use lib.ListN.{length}
use Rattle.lists.specs.Lists.{first}
use Rattle.lists.proofs.Scans.{Scan}
use Rattle.atomicity.specs.Check.{misfits, lowest_at}
use Rattle.orders.proofs.Seen.{Seen}
use Rattle.orders.proofs.lowest_misfit_with.Given as goal

abbrev pub invariant-loop-p : goal.invariant-loop-p
invariant-loop-p l = Scan (lowest_at (misfits l.table l.register l.list) l.list) (first (λ q. q) (misfits l.table l.register l.list)) (length l.list) l.p × Seen l.list (length l.initial.seen) l.p l.seen
