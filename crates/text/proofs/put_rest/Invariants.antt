-- The loop writes number by number: what the numbers from here on and the line feed make of the buffer is what the whole makes (`Putting`).
use lib.ListN.{drop}
use Rattle.text.proofs.Joins.{rest}
use Rattle.text.proofs.Putting.{Putting}
use Rattle.text.proofs.put_rest.Given as goal

abbrev pub invariant-loop-n : goal.invariant-loop-n
invariant-loop-n l = Putting l.initial.out l.at (rest l.rest) l.out l.place (rest (drop l.n-index l.rest))
