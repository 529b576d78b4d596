use borrow.Author.Rules.{rules}
use Rattle.clock.proofs.Reading.{leads_short, leads_zero, leads_other}
use Rattle.clock.proofs.leading_zero.Goals as goal

pub returns-in-48 : goal.returns-in-48
returns-in-48 c = search (rules, leads_zero)

pub returns-in_default : goal.returns-in_default
returns-in_default c = leads_short _ c.in_default.len_below

pub returns-in_default-2 : goal.returns-in_default-2
returns-in_default-2 c = search (rules, leads_other)
