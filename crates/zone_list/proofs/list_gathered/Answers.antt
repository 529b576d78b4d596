-- The rows by rising time are the register's.
use native.Mathlib.Omega.{arith}
use Rattle.history.proofs.Rows.{rows_few}
use Rattle.columns.proofs.Lent.{rows_long, gathered_fit, listed}
use Rattle.zone_list.proofs.list_gathered.Goals as goal

pub put_by_time-requires-clause-fit : goal.put_by_time-requires-clause-fit
put_by_time-requires-clause-fit c = gathered_fit _ _ c.requires.screened _ c.requires.rows_value

pub list_rows-requires-clause-listed : goal.list_rows-requires-clause-listed
list_rows-requires-clause-listed c = (_, listed _ _ c.requires.screened _ _ c.requires.rows_value c.put_by_time.ensures)

pub list_rows-requires-clause-few : goal.list_rows-requires-clause-few
list_rows-requires-clause-few c =
    let g = listed _ _ c.requires.screened _ _ c.requires.rows_value c.put_by_time.ensures in
    omega (arith, rows_long g, rows_few c.args.table.now c.args.register)

pub returns : goal.returns
returns c = c.list_rows.ensures _ (listed _ _ c.requires.screened _ _ c.requires.rows_value c.put_by_time.ensures)
