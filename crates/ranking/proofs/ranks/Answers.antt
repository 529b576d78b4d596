-- What each call leaves is what the next one takes.
use Rattle.ranking.proofs.Ranking.{rows_differ, merge_takes, ranks_end}
use Rattle.ranking.proofs.ranks.Goals as goal

pub by_finish-requires-clause-rows_differ : goal.by_finish-requires-clause-rows_differ
by_finish-requires-clause-rows_differ c = rows_differ c.args.table.now c.args.rows.now c.requires.standing c.requires.fit

pub merge-requires-clause-ready : goal.merge-requires-clause-ready
merge-requires-clause-ready c = (merge_takes c.args.table.now c.args.rows.now _ _ c.args.list.now _ c.stamps_of.ensures c.requires.list_len c.by_finish.ensures c.requires.standing c.requires.fit c.requires.rows_len_bound).0

pub returns : goal.returns
returns c = ranks_end c.args.table.now c.args.rows.now _ _ c.args.list.now _ c.stamps_of.ensures c.requires.list_len c.by_finish.ensures c.requires.fit _ _ c.merge.ensures
