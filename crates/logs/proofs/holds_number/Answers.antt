use native.Mathlib.Omega.{arith}
use Rattle.std.proofs.lemmas.Grind.{common_steps}
use Rattle.logs.specs.Steps.{holds_number}
use Rattle.logs.proofs.holds_number.Goals as goal

pub returns-then-k-columns-3 : goal.returns-then-k-columns-3
unfolding holds_number
returns-then-k-columns-3 c = grind (arith, common_steps)

pub returns-else-k-columns-3 : goal.returns-else-k-columns-3
unfolding holds_number
returns-else-k-columns-3 c = grind (arith, common_steps)
