-- A whole text is copied, or nothing is.
use mathlib.Core.Path.{refl}
use Rattle.printing.proofs.Writing.{printed_short, printed}
use Rattle.printing.proofs.hand_out.Goals as goal

pub returns-then-out-text : goal.returns-then-out-text
returns-then-out-text c = printed_short _ _ _ refl _ c.if-out-text.true c.at.ensures

pub returns : goal.returns
returns c = printed _ _ _ refl _ _ c.if-out-text.false c.passed.ensures c.put_bytes.ensures.1
