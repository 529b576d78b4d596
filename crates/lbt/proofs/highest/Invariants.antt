-- The answer from the top on is the answer from i on.
use mathlib.Core.Path.{◌≡◌}
use Rattle.positions.specs.Places.{latest}
use Rattle.placing.specs.States.{is_free}
use Rattle.lbt.proofs.highest.Given as goal

abbrev pub invariant-loop-i : goal.invariant-loop-i
invariant-loop-i l = latest (is_free l.placed) l.top ≡ latest (is_free l.placed) l.i
