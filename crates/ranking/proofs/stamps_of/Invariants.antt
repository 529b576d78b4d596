-- The loop fills two columns (`Filled`).
use Rattle.lists.proofs.Filled.{Filled}
use Rattle.history.specs.Table.{op_at}
use Rattle.methods.specs.Ranks.{starting, finishing}
use Rattle.preparation.specs.Times.{time_of}
use Rattle.ranking.proofs.stamps_of.Given as goal

abbrev pub invariant-loop-i : goal.invariant-loop-i
invariant-loop-i l = Filled (λ x. time_of (starting (op_at l.table x))) l.rows l.initial.starts l.i l.starts × Filled (λ x. time_of (finishing (op_at l.table x))) l.rows l.initial.finishes l.i l.finishes
