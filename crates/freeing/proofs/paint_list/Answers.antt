use native.Mathlib.Omega.{arith}
use Rattle.lists.proofs.Images.{get_d_in}
use Rattle.freeing.proofs.Painting.{paint_none, paint_end, paint_on}
use Rattle.freeing.proofs.paint_list.Goals as goal

pub loop-w-init : goal.loop-w-init
loop-w-init c = paint_none _ _ _ _

pub dye-requires-clause-w_in_bounds : goal.dye-requires-clause-w_in_bounds
dye-requires-clause-w_in_bounds c = c.requires.writes _ (get_d_in _ 0 c.loop-w.w-index (omega arith))

pub loop-w-preserved : goal.loop-w-preserved
loop-w-preserved c = paint_on _ _ _ _ _ _ c.loop-w.invariant (omega arith) _ c.dye.auto.placed c.dye.ensures

pub returns : goal.returns
returns c = paint_end _ _ _ _ _ _ c.loop-w.invariant (omega arith)
