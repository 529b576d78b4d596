-- The loop extends the run: where it ends and its top are what the writes from here on say (`Running`).
use Rattle.chunking.proofs.Running.{Running}
use Rattle.chunking.proofs.run.Given as goal

abbrev pub invariant-loop-i : goal.invariant-loop-i
invariant-loop-i l = Running l.zones.finish.now l.zones.late.now l.list l.a l.initial.top l.i l.top
