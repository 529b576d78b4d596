use borrow.Author.Tests.{le-leb, lt-leb}
use Rattle.joining.specs.Next.{over_at}
use Rattle.joining.proofs.over.Goals as goal

pub returns-then-clusters-cursor : goal.returns-then-clusters-cursor
unfolding over_at
returns-then-clusters-cursor c = rw (le-leb _ _ c.if-clusters-cursor.true)

pub returns-else-clusters-cursor : goal.returns-else-clusters-cursor
unfolding over_at
returns-else-clusters-cursor c = rw (lt-leb _ _ c.if-clusters-cursor.false)
