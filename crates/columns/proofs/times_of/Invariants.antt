use Rattle.columns.proofs.Keying.{Keying}
use Rattle.columns.proofs.times_of.Given as goal

abbrev pub invariant-loop-x : goal.invariant-loop-x
invariant-loop-x l = Keying l.table l.rows l.initial.keys l.x-index l.keys
