-- The answers, or the refusal of the question, are printed of the file's table.
use Rattle.std.proofs.Common.{rules}
use Rattle.answer_report.specs.Text.{answers_text}
use Rattle.answer_report.proofs.Lines.{meant}
use Rattle.answer_report.proofs.road.Goals as goal

pub returns-clause-text : goal.returns-clause-text
returns-clause-text c = c.of_file.ensures (answers_text c.args.question c.args.allowance) (λ t o r p table each. search rules)

pub returns-clause-said : goal.returns-clause-said
returns-clause-said c = meant _ _ _
