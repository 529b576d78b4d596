use native.Mathlib.Omega.{arith}
use Rattle.conditions.proofs.Silence.{silence_none, silence_more}
use Rattle.conditions.proofs.all_quiet.Goals as goal

pub loop-i-init : goal.loop-i-init
loop-i-init c = silence_none _ _ _

pub loop-i-preserved : goal.loop-i-preserved
loop-i-preserved c = silence_more _ _ _ _ (omega arith) c.loop-i.invariant (c.quiet.ensures c.if-not-quiet.false)

pub returns : goal.returns
returns c = λ q i l. c.loop-i.invariant.quiet i (omega arith)
