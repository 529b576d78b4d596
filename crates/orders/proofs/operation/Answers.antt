use Rattle.orders.proofs.NoRow.{no_row}
use Rattle.orders.proofs.operation.Goals as goal

pub returns : goal.returns
returns c = no_row c.args.table.now c.args.row c.requires c.if-at-n.false
