-- The loop fills the list (`Filled`).
use lib.ListN.{get_or}
use Rattle.lists.proofs.Filled.{Filled}
use Rattle.columns.proofs.rows_at.Given as goal

abbrev pub invariant-loop-i : goal.invariant-loop-i
invariant-loop-i l = Filled (λ j. get_or l.rows j 0) l.places l.initial.out l.i l.out
