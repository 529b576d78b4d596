use native.Mathlib.Omega.{arith}
use Rattle.std.proofs.lemmas.Grind.{common_steps}
use Rattle.cells.specs.Steps.{comma_at}
use Rattle.cells.proofs.comma_at.Goals as goal

pub returns-then-at-bytes : goal.returns-then-at-bytes
unfolding comma_at
returns-then-at-bytes c = grind (arith, common_steps)

pub returns-else-at-bytes : goal.returns-else-at-bytes
unfolding comma_at
returns-else-at-bytes c = grind (arith, common_steps)
