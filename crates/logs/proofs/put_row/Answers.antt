-- The row's numbers are copied over five places of the table.
use Prim.Native.Nat.{◌*◌}
use Rattle.records.specs.Records.{cells}
use Rattle.text.proofs.Putting.{put_over}
use Rattle.logs.proofs.put_row.Goals as goal

pub returns : goal.returns
returns c = rw c.copy_from_slice.ensures.after (put_over (c.args.n * 5) (cells c.args.row) c.args.table.now c.requires)
