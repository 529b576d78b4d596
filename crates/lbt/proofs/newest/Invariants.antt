-- The answer from low on is the answer from i on.
use mathlib.Core.Path.{◌≡◌}
use Rattle.positions.specs.Places.{latest}
use Rattle.lbt.specs.Rounds.{open_write}
use Rattle.lbt.proofs.newest.Given as goal

abbrev pub invariant-loop-i : goal.invariant-loop-i
invariant-loop-i l = latest (open_write l.columns.chains.writer.now l.placed) l.low ≡ latest (open_write l.columns.chains.writer.now l.placed) l.i
