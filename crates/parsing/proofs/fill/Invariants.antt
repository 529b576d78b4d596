-- The loop goes line by line: what the numbers from here on make of the list is what those of the whole make (`Putting`).
use Prim.Native.Nat.{◌-◌}
use lib.ListN.{length, drop}
use Rattle.parsing.specs.Numbers.{leading}
use Rattle.text.proofs.Putting.{Putting}
use Rattle.parsing.proofs.fill.Given as goal

abbrev pub invariant-loop-n : goal.invariant-loop-n
invariant-loop-n l = Putting l.initial.list 0 (leading (length l.initial.list) l.text) l.list l.n (leading (length l.initial.list - l.n) (drop l.at l.text))
