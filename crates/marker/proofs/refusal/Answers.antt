-- A law of `Refusing` for each return.
use Rattle.marker.proofs.Refusing.{met_refused, met_short, met_passed}
use Rattle.marker.proofs.refusal.Goals as goal

pub returns-then-nine-ne0-clause-tested : goal.returns-then-nine-ne0-clause-tested
returns-then-nine-ne0-clause-tested c = λ question u list long. met_refused _ _ question list _ u _ c.examine_into-nine.ensures.value _ long c.if-nine-ne0.true

pub returns-then-room-nine-clause-tested : goal.returns-then-room-nine-clause-tested
returns-then-room-nine-clause-tested c = λ question u list long. met_short _ _ question list _ u _ c.examine_into-nine.ensures.value _ long c.if-nine-ne0.false c.if-room-nine.true _ c.at.ensures

pub returns-clause-tested : goal.returns-clause-tested
returns-clause-tested c = λ question u list long. met_passed _ _ question list _ u _ c.examine_into-nine.ensures.value _ long c.if-nine-ne0.false c.if-room-nine.false
