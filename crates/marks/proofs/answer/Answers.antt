-- What the answer says, whichever list was inside.
use Rattle.marks.proofs.Saying.{said_of}
use Rattle.marks.proofs.answer.Goals as goal

pub returns-then-table-le-FEW : goal.returns-then-table-le-FEW
returns-then-table-le-FEW c =
    let whole = said_of _ _ _ _ _ c.answer_sized.ensures in record { answer = whole.0; said = whole.1.0; room = whole.1.1 }

pub returns-else-table-le-FEW : goal.returns-else-table-le-FEW
returns-else-table-le-FEW c =
    let whole = said_of _ _ _ _ _ c.answer_sized-else-table-le-FEW.ensures in record { answer = whole.0; said = whole.1.0; room = whole.1.1 }
