-- The walk goes down as long as the times rise (`Rising`).
use Rattle.history.specs.Table.{op_at}
use Rattle.methods.specs.Ranks.{starting}
use Rattle.preparation.specs.Times.{time_of}
use Rattle.columns.proofs.Rising.{Rising}
use Rattle.columns.proofs.by_time.Given as goal

abbrev pub invariant-loop-place : goal.invariant-loop-place
invariant-loop-place l = Rising (λ x. time_of (starting (op_at l.table x))) l.rows l.place l.first
