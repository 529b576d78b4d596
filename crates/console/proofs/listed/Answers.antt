-- What the reading answers, and the list as it leaves it.
use mathlib.Core.Path.{ap, ◌∙◌}
use Rattle.std.specs.Option.{ok_or}
use Rattle.console.specs.declared.ListFault.TheVariants.{Unsound}
use Rattle.console.proofs.Reading.{listed_within, listing_of}
use Rattle.console.proofs.listed.Goals as goal

pub returns-clause-within : goal.returns-clause-within
returns-clause-within c = listed_within c.args.list.now c.list.new.list c.args.bytes.now _ c.list.ensures.0 c.list.auto.list _ c.ok_or.ensures.value

pub returns-clause-answer : goal.returns-clause-answer
returns-clause-answer c = c.ok_or.ensures.value ∙ ap (λ r. ok_or r Unsound) c.list.ensures.0 ∙ listing_of _
