use mathlib.Core.Bool.{true, false}
use native.Mathlib.Omega.{arith}
use borrow.Author.Tests.{le-leb, lt-leb, le-ltb}
use Rattle.zones.specs.Zones.{Inside}
use Rattle.joining.specs.Next.{chunk_first}
use Rattle.joining.proofs.Chunks.{sides_inside}
use Rattle.joining.proofs.chunk_first.Goals as goal

pub low_end-requires : goal.low_end-requires
low_end-requires c =
    let h = c.args.clusters.now in
    let i : Inside h.columns.finish.now h.forwards.now = rw h.all_forward (sides_inside _ h.columns.sound _ h.zoned true) in
    i c.args.cursor.forward (omega arith)

pub low_end-requires-else-clusters-j : goal.low_end-requires-else-clusters-j
low_end-requires-else-clusters-j c =
    let h = c.args.clusters.now in
    let i : Inside h.columns.finish.now h.backwards.now = rw h.all_backward (sides_inside _ h.columns.sound _ h.zoned false) in
    i c.args.cursor.backward (omega arith)

pub returns-then-clusters-j : goal.returns-then-clusters-j
unfolding chunk_first
returns-then-clusters-j c = rw (lt-leb _ _ c.if-a-clusters.true, le-leb _ _ c.if-clusters-j.true)

pub returns-else-clusters-j : goal.returns-else-clusters-j
unfolding chunk_first
returns-else-clusters-j c = rw (lt-leb _ _ c.if-a-clusters.true, lt-leb _ _ c.if-clusters-j.false, c.low_end.ensures, c.low_end-else-clusters-j.ensures)

pub returns-else-a-clusters : goal.returns-else-a-clusters
unfolding chunk_first
returns-else-a-clusters c = rw (le-ltb _ _ c.if-a-clusters.false, le-leb _ _ c.if-a-clusters.false)
