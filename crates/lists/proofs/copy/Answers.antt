use Rattle.lists.proofs.Copying.{copied_more}
use Rattle.lists.proofs.copy.Goals as goal

pub loop-i-preserved : goal.loop-i-preserved
loop-i-preserved g c = copied_more _ _ _ _ _ c.loop-i-test.true c.requires c.index-from-i.is c.loop-i.invariant
