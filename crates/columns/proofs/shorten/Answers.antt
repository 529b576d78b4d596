use mathlib.Core.Path.{refl}
use native.Mathlib.Omega.{arith}
use Rattle.columns.proofs.Cutting.{cut_none, cut_write, cut_read, cut_positive, cut_end}
use Rattle.columns.proofs.shorten.Goals as goal

pub loop-at-init : goal.loop-at-init
loop-at-init c = λ H u. cut_none H _ _ _ refl u

pub lowered-requires : goal.lowered-requires
lowered-requires c =
    let g = c.loop-at.invariant c.requires.0 c.requires.1 in
    cut_positive c.requires.0 _ c.requires.1.tied _ (omega arith) _ g c.if-w-at.true c.requires.1.above

pub loop-at-preserved-then-w-at : goal.loop-at-preserved-then-w-at
loop-at-preserved-then-w-at c = λ H u. cut_read H _ u.tied _ (omega arith) _ (c.loop-at.invariant H u) c.if-w-at.true _ c.lowered.ensures

pub loop-at-preserved : goal.loop-at-preserved
loop-at-preserved c = λ H u. cut_write H _ u.tied _ (omega arith) _ (c.loop-at.invariant H u) c.if-w-at.false

pub returns : goal.returns
returns c = λ H u. cut_end H _ _ (c.loop-at.invariant H u) (omega arith)
