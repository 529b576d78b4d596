-- The first i rows show no condition (`Silence`).
use Rattle.conditions.proofs.Silence.{Silence}
use Rattle.conditions.proofs.all_quiet.Given as goal

abbrev pub invariant-loop-i : goal.invariant-loop-i
invariant-loop-i l = Silence l.table l.rows l.writer l.i
