use borrow.Author.Rules.{rules}
use Rattle.history.specs.Table.{is_read}
use Rattle.history.proofs.Op.is_read.Goals as goal

pub returns : goal.returns
unfolding is_read
returns c = search rules
