use Prim.Native.Nat.{◌+◌}
use mathlib.Core.Path.{sym}
use native.Mathlib.Omega.{arith}
use borrow.Author.Tests.{ne_eqb, lt-ltb, le-ltb}
use Rattle.choice.specs.Viable.{follows}
use Rattle.choice.proofs.Sequence.{plus_eq}
use Rattle.choice.proofs.follows.Goals as goal

pub returns-then-i-turn : goal.returns-then-i-turn
unfolding follows
returns-then-i-turn c = rw (c.in-Some.is, ne_eqb (c.in-Some.w + 1) 0 (λ e. omega arith), lt-ltb _ _ c.if-i-turn.true) (sym (plus_eq _ _))

pub returns-else-i-turn : goal.returns-else-i-turn
unfolding follows
returns-else-i-turn c = rw (c.in-Some.is, ne_eqb (c.in-Some.w + 1) 0 (λ e. omega arith), le-ltb c.args.i _ c.if-i-turn.false)

pub returns-in-None : goal.returns-in-None
unfolding follows
returns-in-None c = rw c.in-None.is
