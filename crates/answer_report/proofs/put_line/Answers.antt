use Rattle.answer_report.proofs.Lines.{line_stored}
use Rattle.answer_report.proofs.put_line.Goals as goal

pub returns : goal.returns
returns c = line_stored _ _ _ _ _ _ _ _ c.answer_in-one.ensures c.put.ensures
