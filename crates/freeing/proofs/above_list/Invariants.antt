use Rattle.freeing.proofs.Topping.{Topping}
use Rattle.freeing.proofs.above_list.Given as goal

abbrev pub invariant-loop-w : goal.invariant-loop-w
invariant-loop-w l = Topping l.last l.list l.initial.top l.w-index l.top
