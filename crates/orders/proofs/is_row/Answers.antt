use Prim.Native.Nat.{◌/◌}
use borrow.Author.Tests.{lt-ltb, le-ltb}
use lib.ListN.{length}
use Rattle.atomicity.specs.Check.{is_row}
use Rattle.orders.proofs.is_row.Goals as goal

pub returns-then-at-n : goal.returns-then-at-n
unfolding is_row
returns-then-at-n c = rw (lt-ltb c.args.row (length c.args.table.now / 5) c.if-at-n.true) c.bears.ensures

pub returns-else-at-n : goal.returns-else-at-n
unfolding is_row
returns-else-at-n c = rw (le-ltb c.args.row (length c.args.table.now / 5) c.if-at-n.false)
