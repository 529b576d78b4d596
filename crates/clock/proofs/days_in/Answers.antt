use mathlib.Core.Path.{sym, ◌∙◌}
use Rattle.clock.proofs.Reading.{days_zero, days_number}
use Rattle.clock.proofs.days_in.Goals as goal

pub returns-then-leading_zero : goal.returns-then-leading_zero
returns-then-leading_zero c = days_zero _ (sym c.leading_zero.ensures ∙ c.if-leading_zero.true)

pub returns : goal.returns
returns c = c.number_in.ensures ∙ days_number _ (sym c.leading_zero.ensures ∙ c.if-leading_zero.false)
