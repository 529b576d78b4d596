use mathlib.Core.Path.{◌≡◌, refl}
use lib.Dec.{eqb}
use borrow.Author.Tests.{lt-ltb, le-ltb}
use Rattle.history.specs.declared.Op.{Op}
use Rattle.history.specs.Table.{is_opening, precedes}
use Rattle.history.proofs.Op.precedes.Goals as goal

by_kind : (o : Op) → is_opening o ≡ eqb o.kind 3
unfolding is_opening
by_kind o = refl

pub returns-then-self-later : goal.returns-then-self-later
unfolding precedes
returns-then-self-later c = rw (lt-ltb _ _ c.if-self-later.true) refl

pub returns-then-is_opening : goal.returns-then-is_opening
unfolding precedes
returns-then-is_opening c = rw (le-ltb _ _ c.if-self-later.false, ← c.is_opening.ensures, c.if-is_opening.true, by_kind c.args.later) refl

pub returns-else-is_opening : goal.returns-else-is_opening
unfolding precedes
returns-else-is_opening c = rw (le-ltb _ _ c.if-self-later.false, ← c.is_opening.ensures, c.if-is_opening.false) refl
