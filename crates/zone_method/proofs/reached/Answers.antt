use borrow.Author.Tests.{eq-eqb, ne_eqb}
use Rattle.zone_method.specs.Deciding.{reached_at}
use Rattle.zone_method.proofs.reached.Goals as goal

pub returns-then-list-at : goal.returns-then-list-at
unfolding reached_at
returns-then-list-at c = rw (eq-eqb _ 1 c.if-list-at.true)

pub returns-else-list-at : goal.returns-else-list-at
unfolding reached_at
returns-else-list-at c = rw (ne_eqb _ 1 c.if-list-at.false)
