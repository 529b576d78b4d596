-- The loop decides what the zones from here on do (`Passing`).
use Rattle.zone_method.proofs.Passing.{Passing}
use Rattle.zone_method.proofs.decide.Given as goal

abbrev pub invariant-loop-i : goal.invariant-loop-i
invariant-loop-i l = Passing l.list l.n l.i l.bound
