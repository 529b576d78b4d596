use native.Mathlib.Omega.{arith}
use Rattle.roads.proofs.Examining.{listed_few, answer_refused, answer_marked}
use Rattle.roads.proofs.answer.Goals as goal

pub returns-then-met-ne0 : goal.returns-then-met-ne0
returns-then-met-ne0 c = λ register e. answer_refused _ c.requires.sound register _ _ _ e.answer c.if-met-ne0.true

pub mark_rows-requires-clause-few : goal.mark_rows-requires-clause-few
mark_rows-requires-clause-few c = listed_few _ c.requires.sound _ _ (c.requires.examined.1.listed c.if-met-ne0.false)

pub mark_rows-requires-clause-list_room : goal.mark_rows-requires-clause-list_room
mark_rows-requires-clause-list_room c =
    omega (arith, listed_few _ c.requires.sound _ _ (c.requires.examined.1.listed c.if-met-ne0.false), c.requires.order_len)

pub returns : goal.returns
returns c =
    λ register e.
    answer_marked _ c.requires.sound register _ _ _ e.answer c.if-met-ne0.false _ c.requires.order_len _ _
    (c.mark_rows.ensures register (e.listed c.if-met-ne0.false))
