use mathlib.Core.Path.{ap}
use native.Mathlib.Omega.{arith}
use Rattle.lists.proofs.Images.{get_d_in}
use Rattle.lists.proofs.Filled.{filled_more}
use Rattle.history.specs.declared.Op.{Op}
use Rattle.writers.proofs.value_of.Goals as goal

pub at-requires : goal.at-requires
at-requires c = c.requires.within _ (get_d_in c.args.rows.now 0 c.loop-i.i (omega arith))

pub loop-i-preserved : goal.loop-i-preserved
loop-i-preserved c = filled_more _ _ _ (omega arith) _ _ _ (omega arith) (ap (λ (o : Op). o.value) c.at.ensures) c.loop-i.invariant
