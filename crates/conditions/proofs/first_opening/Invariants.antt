-- The first i rows are no openings (`Sought`).
use Rattle.history.specs.Table.{op_at, is_opening}
use Rattle.conditions.proofs.Openings.{Sought}
use Rattle.conditions.proofs.first_opening.Given as goal

abbrev pub invariant-loop-i : goal.invariant-loop-i
invariant-loop-i l = Sought (λ x. is_opening (op_at l.table x)) l.rows l.i
