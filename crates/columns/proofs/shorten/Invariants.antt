-- The loop goes from the last operation up (`Cutting`): a write changes nothing, a read lowers the finish of its write.
use mathlib.Core.List.{List}
use Rattle.history.specs.declared.Op.{Op}
use Rattle.columns.specs.Finishes.{Whole}
use Rattle.columns.proofs.Cutting.{Cutting}
use Rattle.columns.proofs.shorten.Given as goal

abbrev pub invariant-loop-at : goal.invariant-loop-at
invariant-loop-at l = (H : List Op) → Whole H l.writer l.initial.finish → Cutting H l.at l.finish
