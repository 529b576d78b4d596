use Rattle.grouping.proofs.Rows.{run_is}
use Rattle.grouping.proofs.rows_of.Goals as goal

pub returns : goal.returns
returns c = run_is _ _ c.requires.grouped_value _ _ _ _ c.seek-from.ensures c.run.ensures
