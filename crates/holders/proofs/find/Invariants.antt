use Prim.Native.Nat.{ℕ}
use Rattle.holders.specs.Buckets.{Started}
use Rattle.holders.proofs.Walking.{Walking}
use Rattle.holders.proofs.find.Given as goal

abbrev pub invariant-loop-k : goal.invariant-loop-k
invariant-loop-k l = (n : ℕ) → Started n l.keys l.next l.e l.link → Walking n l.keys l.e l.k

abbrev pub decreases-loop-k : goal.decreases-loop-k
decreases-loop-k l = l.k
