use mathlib.Core.Path.{refl}
use borrow.Author.Tests.{eq-eqb, ne_eqb}
use Rattle.history.specs.Table.{is_opening, is_write}
use Rattle.history.proofs.Op.is_write.Goals as goal

pub returns-then-self : goal.returns-then-self
unfolding is_write is_opening
returns-then-self c = rw (eq-eqb _ 1 c.if-self.true) refl

pub returns-else-self : goal.returns-else-self
unfolding is_write is_opening
returns-else-self c = rw (ne_eqb _ 1 c.if-self.false) refl
