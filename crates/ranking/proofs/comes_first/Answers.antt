use borrow.Author.Tests.{lt-ltb, le-ltb}
use Rattle.ranking.specs.Ranked.{comes_first}
use Rattle.ranking.proofs.comes_first.Goals as goal

pub returns-then-i-starts : goal.returns-then-i-starts
unfolding comes_first
returns-then-i-starts c = rw (lt-ltb _ _ c.if-i-starts.true)

pub returns-else-i-starts : goal.returns-else-i-starts
unfolding comes_first
returns-else-i-starts c = rw (le-ltb _ _ c.if-i-starts.false)
