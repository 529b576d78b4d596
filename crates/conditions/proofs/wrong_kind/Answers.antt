use Rattle.history.specs.Screen.{wrong_kind}
use Rattle.conditions.proofs.wrong_kind.Goals as goal

pub returns-then-not-is_write : goal.returns-then-not-is_write
unfolding wrong_kind
returns-then-not-is_write c = rw (← c.is_write.ensures, c.if-not-is_write.true, c.is_read.ensures)

pub returns-else-not-is_write : goal.returns-else-not-is_write
unfolding wrong_kind
returns-else-not-is_write c = rw (← c.is_write.ensures, c.if-not-is_write.false)
