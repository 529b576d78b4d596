use native.Mathlib.Omega.{arith}
use Rattle.std.proofs.lemmas.Grind.{common_steps}
use Rattle.calls.specs.Calls.{number_answer}
use Rattle.calls.proofs.number_answer.Goals as goal

pub returns : goal.returns
unfolding number_answer
returns c = grind (arith, common_steps)
