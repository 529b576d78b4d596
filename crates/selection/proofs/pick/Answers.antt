-- A file with a record that is not sound is refused (`no_step`).
use native.Mathlib.Omega.{arith}
use Rattle.selection.proofs.Picking.{pick_none, pick_end, no_step}
use Rattle.selection.proofs.pick.Goals as goal

pub loop-pass-init : goal.loop-pass-init
loop-pass-init c = pick_none _ _ _ c.requires

pub returns-in_err-size : goal.returns-in_err-size
returns-in_err-size c =
    rw c.from_residual.ensures (no_step _ _ _ _ _ _ c.pick_plain-pass.ensures.0 (omega arith) c.in_err-size.ensures)

pub returns : goal.returns
returns c = pick_end _ _ _ _ _ _ c.loop-pass.invariant (omega arith)
