use mathlib.Core.Path.{sym, ap, ◌∙◌}
use lib.ListN.{length}
use Rattle.history.proofs.Rows.{history_count}
use Rattle.summary.proofs.Entries.{entry_stored}
use Rattle.roads.specs.Examined.{RowsOf}
use Rattle.summary.proofs.put_entry.Goals as goal

pub returns : goal.returns
returns c =
    let own : RowsOf c.args.road.now.table.now c.args.register c.split_at_mut-rows.result.0.now = c.split_at_mut-rows.ensures.front ∙ c.rows_of-m.ensures.1 in
    let e = c.examine-met.ensures c.args.register own in
    let count = c.examine-met.auto.rows ∙ ap length own ∙ sym (history_count _ _) in
    c.put.ensures ∙ entry_stored _ _ _ _ _ _ _ count (c.answer-one.ensures _ e) (c.answer-two.ensures _ e)
