use borrow.Author.Tests.{lt-ltb, le-ltb}
use Rattle.columns.specs.Finishes.{lowered}
use Rattle.columns.proofs.lowered.Goals as goal

pub returns-then-end-finish : goal.returns-then-end-finish
unfolding lowered
returns-then-end-finish c = rw (lt-ltb _ _ c.if-end-finish.true)

pub returns-else-end-finish : goal.returns-else-end-finish
unfolding lowered
returns-else-end-finish c = rw (le-ltb _ _ c.if-end-finish.false)
