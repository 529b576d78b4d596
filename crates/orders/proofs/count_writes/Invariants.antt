-- The loop counts the writes met and fills a place a turn (`Counting`).
use Rattle.orders.proofs.Between.{Counting}
use Rattle.orders.proofs.count_writes.Given as goal

abbrev pub invariant-loop-p : goal.invariant-loop-p
invariant-loop-p l = Counting l.table l.list l.p l.writes l.counts
