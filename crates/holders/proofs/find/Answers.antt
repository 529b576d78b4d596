use native.Mathlib.Omega.{arith}
use Rattle.holders.proofs.Walking.{walk_on, walk_end}
use Rattle.holders.proofs.find.Goals as goal

pub loop-k-preserved : goal.loop-k-preserved
loop-k-preserved c = λ n s. walk_on n _ _ _ _ s _ (c.loop-k.invariant n s) (omega arith) c.if-keys-j.false

pub returns : goal.returns
returns c = walk_end _ _ _ _ _ c.requires.1 _ (c.loop-k.invariant _ c.requires.1) (omega arith)
