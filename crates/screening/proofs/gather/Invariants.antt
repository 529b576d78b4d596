-- The first i rows are looked at, and those of the register gathered (`Gathering`).
use Rattle.screening.proofs.Loops.{Gathering}
use Rattle.screening.proofs.gather.Given as goal

abbrev pub invariant-loop-row : goal.invariant-loop-row
invariant-loop-row l = Gathering l.table l.register l.initial.rows l.row l.m l.rows
