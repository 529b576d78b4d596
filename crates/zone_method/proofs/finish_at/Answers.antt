use borrow.Author.Tests.{eq-eqb, ne_eqb}
use Rattle.zone_method.specs.Deciding.{finish_at}
use Rattle.zone_method.proofs.finish_at.Goals as goal

pub returns-then-list-at : goal.returns-then-list-at
unfolding finish_at
returns-then-list-at c = rw (eq-eqb _ 1 c.if-list-at.true)

pub returns-else-list-at : goal.returns-else-list-at
unfolding finish_at
returns-else-list-at c = rw (ne_eqb _ 1 c.if-list-at.false)
