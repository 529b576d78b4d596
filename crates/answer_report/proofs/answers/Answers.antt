-- The question is refused, or the answers of the table are printed.
use mathlib.Core.Path.{ap, ◌∙◌}
use Rattle.printing.specs.Texts.{refused_line}
use Rattle.printing.proofs.Writing.{text_printed}
use Rattle.answer_report.proofs.Lines.{text_refused}
use Rattle.answer_report.proofs.answers.Goals as goal

pub returns-in_default : goal.returns-in_default
returns-in_default c = text_printed _ _ _ _ _ (ap refused_line c.at.ensures ∙ text_refused _ _ _ c.in_default.ensures) c.refusal.ensures

pub returns : goal.returns
returns c = rw c.in-Ok.ensures at c.text.ensures
