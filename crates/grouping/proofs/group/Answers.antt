use Rattle.grouping.proofs.Columns.{group_is}
use Rattle.grouping.proofs.group.Goals as goal

pub returns : goal.returns
returns c = group_is _ _ c.column.ensures _ _ c.requires.rows_len c.places_by.ensures
