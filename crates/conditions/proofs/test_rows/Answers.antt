use mathlib.Core.Path.{◌∙◌}
use Rattle.conditions.proofs.Chain.{rows_quiet}
use Rattle.conditions.proofs.test_rows.Goals as goal

pub returns-then-all_quiet : goal.returns-then-all_quiet
returns-then-all_quiet c = c.passed-passed.ensures ∙ rows_quiet _ _ _ c.requires.listed c.requires.writer_value (c.all_quiet.ensures c.if-all_quiet.true)
