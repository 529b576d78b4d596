use mathlib.Core.Path.{◌≡◌, sym, ◌∙◌}
use native.Mathlib.Omega.{arith}
use Rattle.cells.proofs.Reading.{cell_is, digits_none, digits_end, digits_more, digits_off}
use Rattle.cells.proofs.digits.Goals as goal

pub loop-i-init : goal.loop-i-init
loop-i-init c = (digits_none _ _, omega arith)

pub returns-in_default : goal.returns-in_default
returns-in_default c =
    c.broken_off.ensures
    ∙ cell_is _ _ _ _ (sym c.loop-i.invariant.0.ends) (sym (digits_off c.args.bytes.now c.args.at _ _ c.loop-i.invariant.0 (omega arith) (sym c.in_default.ensures)))

pub loop-i-preserved : goal.loop-i-preserved
loop-i-preserved c = (digits_more _ _ _ _ c.loop-i.invariant.0 (omega arith) _ (sym c.in-Some.ensures), omega arith)

pub returns : goal.returns
returns c =
    let last : c.max.result ≡ c.loop-i.i = omega (arith, c.max.ensures) in
    let z = digits_end _ _ _ _ c.loop-i.invariant.0 (omega arith) in cell_is _ _ _ _ (last ∙ sym z.0) (sym z.1)
