use Rattle.holders.proofs.Hashing.{Hashing}
use Rattle.holders.proofs.hash.Given as goal

abbrev pub invariant-loop-e : goal.invariant-loop-e
invariant-loop-e g l = Hashing g.row.N l.keys l.e l.heads l.next l.out l.initial.heads l.initial.next l.initial.out
