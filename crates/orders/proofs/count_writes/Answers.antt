use native.Mathlib.Omega.{arith}
use Rattle.orders.proofs.Between.{counting_none, one_small, counting_more, counting_end}
use Rattle.orders.proofs.count_writes.Goals as goal

pub loop-p-init : goal.loop-p-init
loop-p-init c = counting_none _ _ _ c.requires.counts_len

pub bounds-counts-p : goal.bounds-counts-p
bounds-counts-p c = omega (arith, c.loop-p.invariant.long)

pub overflow_add-writes : goal.overflow_add-writes
overflow_add-writes c = omega (arith, c.loop-p.invariant.small, c.loop-p.invariant.within, one_small c.args.table.now c.args.list.now c.loop-p.p c.one_write-writes.result c.one_write-writes.ensures)

pub loop-p-preserved : goal.loop-p-preserved
loop-p-preserved c = counting_more _ _ _ _ _ _ (omega arith) c.one_write-writes.ensures c.loop-p.invariant

pub returns : goal.returns
returns c = counting_end _ _ _ _ _ (omega arith) c.loop-p.invariant
