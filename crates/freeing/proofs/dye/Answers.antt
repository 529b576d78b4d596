use native.Mathlib.Omega.{arith}
use Rattle.freeing.proofs.Dyeing.{dye_none, dye_falls, dye_on}
use Rattle.freeing.proofs.dye.Goals as goal

pub loop-k-init : goal.loop-k-init
loop-k-init c = dye_none _ _ _ _ c.args.chains.now.linked c.requires.w_in_bounds.0 c.requires.w_in_bounds.1 _ _

pub loop-k-smaller : goal.loop-k-smaller
loop-k-smaller c = dye_falls _ _ _ _ c.args.chains.now.linked c.requires.w_in_bounds.0 c.requires.w_in_bounds.1 _ _ c.requires.writer_in_bounds _ _ c.loop-k.invariant (omega arith)

pub loop-k-preserved : goal.loop-k-preserved
loop-k-preserved c = dye_on _ _ _ _ c.args.chains.now.linked c.requires.w_in_bounds.0 c.requires.w_in_bounds.1 _ _ c.requires.writer_in_bounds _ _ c.loop-k.invariant (omega arith)
