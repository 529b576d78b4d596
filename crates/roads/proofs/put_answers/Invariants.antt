-- The fields of the registers passed stand at the front (`Entered`).
use Rattle.lists.proofs.Entries.{Entered}
use Rattle.marker.specs.Questions.{number}
use Rattle.roads.specs.Answers.{fields}
use Rattle.roads.proofs.put_answers.Given as goal

abbrev pub invariant-loop-i : goal.invariant-loop-i
invariant-loop-i l = Entered (fields l.road.table.now (number l.question) l.allowance) l.registers l.initial.list l.i l.list
