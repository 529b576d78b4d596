use borrow.Author.Tests.{le-leb, lt-leb}
use Rattle.selection.specs.Selected.{step_at}
use Rattle.selection.proofs.step.Goals as goal

pub returns-then-row-ge-LARGEST_COUNT : goal.returns-then-row-ge-LARGEST_COUNT
unfolding step_at
returns-then-row-ge-LARGEST_COUNT c = rw (le-leb 1024 _ c.if-row-ge-LARGEST_COUNT.true)

pub returns : goal.returns
unfolding step_at
returns c = rw (lt-leb 1024 _ c.if-row-ge-LARGEST_COUNT.false) c.extent.ensures
