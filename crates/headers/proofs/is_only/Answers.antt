use native.Mathlib.Omega.{arith}
use Rattle.headers.specs.Header.{is_only}
use Rattle.headers.proofs.is_only.Goals as goal

pub returns-in-Only : goal.returns-in-Only
unfolding is_only
returns-in-Only c = rw c.in-Only.is

pub returns-in_default : goal.returns-in_default
unfolding is_only
returns-in_default c = grind arith
