use native.Mathlib.Omega.{arith}
use borrow.Author.Tests.{eq-eqb, ne_eqb}
use Rattle.selection.specs.Selected.{extent_by}
use Rattle.selection.proofs.extent_by.Goals as goal

pub returns-then-is_plain : goal.returns-then-is_plain
unfolding extent_by
returns-then-is_plain c = (rw (← c.is_plain.ensures, c.if-is_plain.true), λ e. omega arith)

pub returns-then-head-eq-OPENING_HEAD : goal.returns-then-head-eq-OPENING_HEAD
unfolding extent_by
returns-then-head-eq-OPENING_HEAD c = (rw (← c.is_plain.ensures, c.if-is_plain.false, eq-eqb _ 1179651 c.if-head-eq-OPENING_HEAD.true), λ e. omega arith)

pub returns-else-head-eq-OPENING_HEAD : goal.returns-else-head-eq-OPENING_HEAD
unfolding extent_by
returns-else-head-eq-OPENING_HEAD c = rw (← c.is_plain.ensures, c.if-is_plain.false, ne_eqb _ 1179651 c.if-head-eq-OPENING_HEAD.false)
