use mathlib.Core.Path.{sym, ◌∙◌}
use Rattle.parsing.proofs.Values.{number_long, number_short}
use Rattle.parsing.proofs.number_in.Goals as goal

pub returns-then-text-gt20 : goal.returns-then-text-gt20
returns-then-text-gt20 c = sym (number_long _ c.if-text-gt20.true)

pub returns : goal.returns
returns c = c.number_of.ensures ∙ sym (number_short _ c.if-text-gt20.false)
