use mathlib.Core.Path.{refl}
use borrow.Author.Tests.{eq-eqb, ne_eqb}
use Rattle.history.specs.Screen.{stray_opening}
use Rattle.history.proofs.Op.strays.Goals as goal

pub returns-then-self-ne0 : goal.returns-then-self-ne0
unfolding stray_opening
returns-then-self-ne0 c = rw (← c.is_opening.ensures, c.if-is_opening.true, ne_eqb _ 0 c.if-self-ne0.true) refl

pub returns-else-self-ne0 : goal.returns-else-self-ne0
unfolding stray_opening
returns-else-self-ne0 c = rw (← c.is_opening.ensures, c.if-is_opening.true, eq-eqb _ 0 c.if-self-ne0.false) refl

pub returns-else-is_opening : goal.returns-else-is_opening
unfolding stray_opening
returns-else-is_opening c = rw (← c.is_opening.ensures, c.if-is_opening.false) refl
