-- What is written, then the lines ahead, is the whole text (`Lined`).
use Rattle.printing.proofs.Lines.{Lined}
use Rattle.printing.proofs.put_lines.Given as goal

abbrev pub invariant-loop-i : goal.invariant-loop-i
invariant-loop-i l = Lined l.numbers l.w l.k l.initial.out l.at l.out l.place l.i
