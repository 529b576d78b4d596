use native.Mathlib.Omega.{arith}
use Rattle.std.proofs.lemmas.Grind.{common_steps}
use Rattle.parsing.specs.Numbers.{is_number}
use Rattle.logs.proofs.fault_at.Goals as goal

pub returns-in-None-None : goal.returns-in-None-None
unfolding is_number
returns-in-None-None c = grind (arith, common_steps)

pub returns-in_default : goal.returns-in_default
unfolding is_number
returns-in_default c = rw (c.in_default.is-0, c.in_default.is-1)
