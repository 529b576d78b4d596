use mathlib.Core.Path.{sym, ◌∙◌}
use native.Mathlib.Omega.{arith}
use borrow.Author.Tests.{eq-eqb, ne_eqb}
use Rattle.lists.proofs.Images.{get_d_in}
use Rattle.chunking.proofs.Hanging.{skip_hit, skip_on}
use Rattle.chunking.proofs.skip.Goals as goal

pub returns-then-marks-backwards-eq0 : goal.returns-then-marks-backwards-eq0
returns-then-marks-backwards-eq0 c = λ finish late forwards h. skip_hit finish late forwards _ _ _ (c.loop-i.invariant finish late forwards h) (sym (h _ (get_d_in _ 0 c.loop-i.i (omega arith))) ∙ eq-eqb _ _ c.if-marks-backwards-eq0.true)

pub loop-i-preserved : goal.loop-i-preserved
loop-i-preserved c = λ finish late forwards h. skip_on finish late forwards _ _ _ (c.loop-i.invariant finish late forwards h) (omega arith) (sym (h _ (get_d_in _ 0 c.loop-i.i (omega arith))) ∙ ne_eqb _ _ c.if-marks-backwards-eq0.false)
