-- The rows are taken one by one (`Running`).
use Rattle.grouping.proofs.Rows.{Running}
use Rattle.grouping.proofs.run.Given as goal

abbrev pub invariant-loop-m : goal.invariant-loop-m
invariant-loop-m l = Running l.table l.grouped l.register l.from l.initial.list l.m l.list
