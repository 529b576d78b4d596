-- The loop goes line by line: the lines of the whole are numbers exactly if those from here on are.
use Prim.Native.Nat.{◌-◌}
use mathlib.Core.Path.{◌≡◌}
use lib.ListN.{drop}
use Rattle.parsing.specs.Numbers.{sound}
use Rattle.parsing.proofs.sound.Given as goal

abbrev pub invariant-loop : goal.invariant-loop
invariant-loop l = sound l.most l.text ≡ sound (l.most - l.counter) (drop l.at l.text)
