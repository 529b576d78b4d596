use borrow.Author.Rules.{rules}
use Rattle.history.specs.Table.{is_opening}
use Rattle.history.proofs.Op.is_opening.Goals as goal

pub returns : goal.returns
unfolding is_opening
returns c = search rules
