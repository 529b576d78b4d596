-- The lines of the registers, which stand at the front of a slice, under their header.
use mathlib.Core.Path.{sym}
use Rattle.marker.proofs.Asking.{asked_is}
use Rattle.printing.proofs.Writing.{text_printed}
use Rattle.answer_report.proofs.Lines.{text_is}
use Rattle.answer_report.proofs.text.Goals as goal

pub returns : goal.returns
returns c = text_printed _ _ _ _ _ (text_is _ _ _ (sym (asked_is c.args.question)) _ _ _ _ (c.registers-m.ensures _ c.group.ensures) c.put_lines.ensures) c.headed.ensures
