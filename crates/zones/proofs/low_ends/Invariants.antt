-- The loop lists the writes below i, and has written the largest starts of their clusters and their low ends (`Listing`).
use Rattle.zones.proofs.Lows.{Listing}
use Rattle.zones.proofs.low_ends.Given as goal

abbrev pub invariant-loop-i : goal.invariant-loop-i
invariant-loop-i l = Listing l.start l.finish l.writer l.last l.i l.m l.late l.low l.initial.low l.list l.initial.list
