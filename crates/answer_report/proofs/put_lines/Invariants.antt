-- The lines of the registers passed stand at the front (`Entered`).
use Rattle.lists.proofs.Entries.{Entered}
use Rattle.marker.specs.Questions.{number}
use Rattle.answer_report.specs.Text.{line_of}
use Rattle.answer_report.proofs.put_lines.Given as goal

abbrev pub invariant-loop-i : goal.invariant-loop-i
invariant-loop-i l = Entered (line_of l.road.table.now (number l.question) l.allowance) l.registers l.initial.list l.i l.list
