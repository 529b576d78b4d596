-- The answer of the marking call is the same with every list that has room.
use Rattle.marks.proofs.Saying.{answer_sized}
use Rattle.marks.proofs.answer_sized.Goals as goal

pub returns : goal.returns
returns g c = answer_sized _ _ _ _ _ c.requires.size c.requires.room _ _ c.mark.ensures.outcome
