use native.Mathlib.Omega.{arith}
use Rattle.std.proofs.lemmas.Grind.{common_steps}
use Rattle.lists.specs.Lists.{all}
use Rattle.headers.specs.Header.{complete}
use Rattle.headers.proofs.complete.Goals as goal

pub returns-then-is_only-4 : goal.returns-then-is_only-4
unfolding complete all
returns-then-is_only-4 c = grind (arith, common_steps)

pub returns-else-is_only-4 : goal.returns-else-is_only-4
unfolding complete all
returns-else-is_only-4 c = grind (arith, common_steps)
