use mathlib.Core.Path.{sym}
use native.Mathlib.Omega.{arith}
use Rattle.zone_method.proofs.Passing.{pass_none, pass_end, pass_hit, pass_on}
use Rattle.zone_method.proofs.decide.Goals as goal

pub loop-i-init : goal.loop-i-init
loop-i-init c = pass_none _ _

pub returns-then-finish_at-bound : goal.returns-then-finish_at-bound
returns-then-finish_at-bound c = sym (pass_hit _ _ _ _ c.loop-i.invariant (omega arith) _ c.finish_at.ensures c.if-finish_at-bound.true)

pub loop-i-preserved : goal.loop-i-preserved
loop-i-preserved c = pass_on _ _ _ _ c.loop-i.invariant (omega arith) _ c.finish_at.ensures c.if-finish_at-bound.false _ c.reached-bound.ensures

pub returns : goal.returns
returns c = sym (pass_end _ _ _ _ c.loop-i.invariant (omega arith))
