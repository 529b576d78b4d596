use mathlib.Core.Path.{sym, ◌∙◌}
use Rattle.history.proofs.Refusals.{ran_fault, ran_no_fault}
use Rattle.conditions.specs.Tests.{shown_test}
use Rattle.conditions.proofs.run.Goals as goal

pub returns-in-Some : goal.returns-in-Some
returns-in-Some c = rw (c.at.ensures, c.code.ensures) (ran_fault (shown_test c.args.table.now c.args.rows.now c.args.column.now c.args.test) c.in-Some.row (sym c.lowest.ensures ∙ c.in-Some.is))

pub returns-in-None : goal.returns-in-None
returns-in-None c = ran_no_fault (shown_test c.args.table.now c.args.rows.now c.args.column.now c.args.test) (sym c.lowest.ensures ∙ c.in-None.is)
