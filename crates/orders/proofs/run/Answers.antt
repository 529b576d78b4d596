use mathlib.Core.Path.{sym, ◌∙◌}
use Rattle.history.proofs.Refusals.{ran_fault, ran_no_fault}
use Rattle.orders.specs.Faults.{position_test}
use Rattle.orders.proofs.run.Goals as goal

pub returns-in-Some : goal.returns-in-Some
returns-in-Some c = rw (c.at.ensures, c.code.ensures) (ran_fault (position_test c.args.table.now c.args.register c.args.k c.args.list.now c.args.fault) c.in-Some.p (sym c.lowest_at.ensures ∙ c.in-Some.is))

pub returns-in-None : goal.returns-in-None
returns-in-None c = ran_no_fault (position_test c.args.table.now c.args.register c.args.k c.args.list.now c.args.fault) (sym c.lowest_at.ensures ∙ c.in-None.is)
