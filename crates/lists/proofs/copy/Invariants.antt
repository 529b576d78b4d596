-- The first i elements are copied.
use Rattle.std.proofs.Common.{◌≡◌, ◌++◌}
use lib.ListN.{take, drop}
use Rattle.lists.proofs.copy.Given as goal

abbrev pub invariant-loop-i : goal.invariant-loop-i
invariant-loop-i g l = l.to ≡ take l.i l.from ++ drop l.i l.initial.to
