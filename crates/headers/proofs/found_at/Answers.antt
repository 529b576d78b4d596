use mathlib.Core.Logic.{inl, inr}
use Rattle.headers.specs.Header.{more}
use Rattle.headers.proofs.Heading.{names_equal, names_other}
use Rattle.headers.proofs.found_at.Goals as goal

pub returns-then-ne : goal.returns-then-ne
returns-then-ne c = rw (names_other c.args.cell.now c.args.name.now c.if-ne.ensures)

pub returns-in-Missing : goal.returns-in-Missing
unfolding more
returns-in-Missing c = rw (names_equal c.args.cell.now c.args.name.now c.if-ne.ensures, c.in-Missing.is)

pub returns-in-Only : goal.returns-in-Only
unfolding more
returns-in-Only c =
    rw (names_equal c.args.cell.now c.args.name.now c.if-ne.ensures) (elim c.in-Only.is [ inl h ↦ rw h.1 | inr h ↦ rw h ])
