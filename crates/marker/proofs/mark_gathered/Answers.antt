-- The rows by rising time are the register's.
use Rattle.columns.proofs.Lent.{gathered_fit, listed}
use Rattle.marker.proofs.Working.{rows_few_listed, rows_room}
use Rattle.marker.proofs.mark_gathered.Goals as goal

pub put_by_time-requires-clause-fit : goal.put_by_time-requires-clause-fit
put_by_time-requires-clause-fit c = gathered_fit _ _ c.requires.passes.screened _ c.requires.rows_value

pub mark_rows-requires : goal.mark_rows-requires
mark_rows-requires c =
    let l = listed _ _ c.requires.passes.screened _ _ c.requires.rows_value c.put_by_time.ensures in
    record { listed = (c.args.register, l); few = rows_few_listed _ _ _ _ c.requires.passes _ l; list_room = rows_room _ _ _ _ c.requires.passes _ l }

pub returns : goal.returns
returns c = c.mark_rows.ensures _ (listed _ _ c.requires.passes.screened _ _ c.requires.rows_value c.put_by_time.ensures)
