-- A write is never too far; a read is where its write is not before it or the counts say so.
use mathlib.Core.Path.{sym, ap, ◌∙◌}
use borrow.Author.Tests.{le-leb}
use lib.ListN.{get_or}
use Rattle.history.specs.Table.{is_read}
use Rattle.orders.proofs.Far.{far_write, writer_long, counts_rise, counts_tell, no_write_lem}
use native.Mathlib.Omega.{arith}
use Rattle.orders.proofs.too_far.Goals as goal

pub returns-then-not-is_read : goal.returns-then-not-is_read
returns-then-not-is_read c = sym (far_write c.args.table.now c.args.list.now c.requires.ordered c.args.k c.args.p c.requires.p_in_bounds (sym (c.is_read.ensures ∙ ap is_read c.operation.ensures) ∙ c.if-not-is_read.true))

pub bounds-writer-p : goal.bounds-writer-p
bounds-writer-p c = omega (arith, writer_long c.args.table.now c.args.list.now c.requires.ordered c.args.writer.now c.args.counts.now c.requires.writer_value c.requires.counted)

pub overflow_sub-result : goal.overflow_sub-result
overflow_sub-result c = counts_rise c.args.table.now c.args.list.now c.requires.ordered c.args.writer.now c.args.counts.now c.requires.writer_value c.requires.counted c.args.p c.requires.p_in_bounds (get_or c.args.writer.now c.args.p 0) c.if-p-q.false

pub returns-else-p-q : goal.returns-else-p-q
returns-else-p-q c = counts_tell c.args.table.now c.args.list.now c.requires.ordered c.args.writer.now c.args.counts.now c.requires.writer_value c.requires.counted c.args.p c.requires.p_in_bounds c.args.k (sym (c.is_read.ensures ∙ ap is_read c.operation.ensures) ∙ c.if-not-is_read.false) c.if-p-q.false

pub returns-then-p-q : goal.returns-then-p-q
returns-then-p-q c = rw (le-leb _ _ c.if-p-q.true) (sym (no_write_lem c.args.table.now c.args.list.now c.requires.ordered c.args.writer.now c.args.counts.now c.requires.writer_value c.requires.counted c.args.p c.requires.p_in_bounds c.args.k (sym (c.is_read.ensures ∙ ap is_read c.operation.ensures) ∙ c.if-not-is_read.false) c.if-p-q.true))
