-- What is counted, and what the lines ahead take, is constant (`Counted`).
use Rattle.printing.proofs.Lines.{Counted}
use Rattle.printing.proofs.lines_length.Given as goal

abbrev pub invariant-loop-i : goal.invariant-loop-i
invariant-loop-i l = Counted l.numbers l.w l.k l.total l.i
