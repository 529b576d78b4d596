use mathlib.Core.Path.{refl}
use native.Mathlib.Omega.{arith}
use Rattle.lists.proofs.Entries.{entered_none, entered_more, entered_end}
use Rattle.answer_report.proofs.Lines.{line_long}
use Rattle.answer_report.proofs.put_lines.Goals as goal

pub loop-i-init : goal.loop-i-init
loop-i-init c = entered_none _ _ _

pub loop-i-preserved : goal.loop-i-preserved
loop-i-preserved c = entered_more _ _ _ 5 (line_long _ _ _) _ _ _ _ (omega arith) refl c.put_line.ensures c.loop-i.invariant

pub returns : goal.returns
returns c = entered_end _ _ _ 5 (line_long _ _ _) _ _ (omega arith) c.requires c.loop-i.invariant
