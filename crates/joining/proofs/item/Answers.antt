use mathlib.Core.Path.{ap, sym, ◌∙◌}
use mathlib.Core.Bool.{true, false}
use native.Mathlib.Omega.{arith}
use lib.ListN.{length, get_or}
use Rattle.positions.specs.View.{view}
use Rattle.joining.specs.Items.{backs}
use Rattle.lists.proofs.Images.{get_d_in}
use Rattle.chunking.proofs.Sides.{side_write}
use Rattle.joining.proofs.Chunks.{sides_inside}
use Rattle.joining.proofs.Nexting.{next_cut, run_first, run_behind, next_chunk, no_chunk_next, cluster_there, chunk_there, next_cluster}
use Rattle.joining.proofs.item.Goals as goal

pub bounds-clusters-cursor : goal.bounds-clusters-cursor
bounds-clusters-cursor c =
    let h = c.args.clusters.now in
    let d = rw (h.all_forward, h.all_backward) at c.requires.waiting.hangs in
    let e = rw (h.all_forward, h.all_backward) at (sym c.chunk_first.ensures ∙ c.if-not-chunk_first.true) in
    omega (arith, ap length h.all_backward, cluster_there _ h.columns.sound _ h.zoned _ _ d (rw (h.all_forward, h.all_backward) at c.requires.waiting.some) e)

pub cluster-at-requires-clause-w_in_bounds : goal.cluster-at-requires-clause-w_in_bounds
cluster-at-requires-clause-w_in_bounds c =
    let h = c.args.clusters.now in
    let d = rw (h.all_forward, h.all_backward) at c.requires.waiting.hangs in
    let e = rw (h.all_forward, h.all_backward) at (sym c.chunk_first.ensures ∙ c.if-not-chunk_first.true) in
    let k = side_write _ h.columns.sound _ false {w = get_or (backs (view h.columns) h.late.now) c.args.cursor.backward 0} (get_d_in _ 0 _ (cluster_there _ h.columns.sound _ h.zoned _ _ d (rw (h.all_forward, h.all_backward) at c.requires.waiting.some) e)) in
    rw h.all_backward (rw h.columns.sound.shape.long k.0, k.1)

pub returns-then-not-chunk_first-clause-end : goal.returns-then-not-chunk_first-clause-end
returns-then-not-chunk_first-clause-end c =
    let h = c.args.clusters.now in
    let d = rw (h.all_forward, h.all_backward) at c.requires.waiting.hangs in
    let e = rw (h.all_forward, h.all_backward) at (sym c.chunk_first.ensures ∙ c.if-not-chunk_first.true) in
    let t = cluster_there _ h.columns.sound _ h.zoned _ _ d (rw (h.all_forward, h.all_backward) at c.requires.waiting.some) e in
    rw (h.all_forward, h.all_backward) (next_cluster _ h.columns.sound _ h.zoned _ _ d (rw h.all_forward at c.requires.waiting.forth) t e _ _ (rw h.all_backward at c.cluster-at.ensures.end) _)

pub run-span-requires : goal.run-span-requires
run-span-requires c =
    let h = c.args.clusters.now in
    let d = rw (h.all_forward, h.all_backward) at c.requires.waiting.hangs in
    let e = rw (h.all_forward, h.all_backward) at (sym c.chunk_first.ensures ∙ c.if-not-chunk_first.false) in
    record { inside = rw h.all_forward (sides_inside _ h.columns.sound _ h.zoned true); a_in_bounds = rw h.all_forward (chunk_there _ h.columns.sound _ h.zoned _ _ d e) }

pub chunk-found-requires-clause-cut : goal.chunk-found-requires-clause-cut
chunk-found-requires-clause-cut c =
    let h = c.args.clusters.now in
    let d = rw (h.all_forward, h.all_backward) at c.requires.waiting.hangs in
    let s = rw h.all_forward at c.run-span.ensures in
    rw h.all_forward (next_cut _ h.columns.sound _ h.zoned _ _ d _ s.0 s.1 s.2)

pub returns-in_err-at-clause-end : goal.returns-in_err-at-clause-end
returns-in_err-at-clause-end c =
    let h = c.args.clusters.now in
    let d = rw (h.all_forward, h.all_backward) at c.requires.waiting.hangs in
    let e = rw (h.all_forward, h.all_backward) at (sym c.chunk_first.ensures ∙ c.if-not-chunk_first.false) in
    let s = rw h.all_forward at c.run-span.ensures in
    let o = rw c.in_err-at.was at c.chunk-found.ensures.order in
    rw (c.from_residual.ensures, h.all_forward, h.all_backward) (no_chunk_next _ h.columns.sound _ h.zoned _ _ d _ s.0 s.1 s.2 e _ (rw h.all_forward at o))

pub returns : goal.returns
returns c =
    let h = c.args.clusters.now in
    let d = rw (h.all_forward, h.all_backward) at c.requires.waiting.hangs in
    let e = rw (h.all_forward, h.all_backward) at (sym c.chunk_first.ensures ∙ c.if-not-chunk_first.false) in
    let s = rw h.all_forward at c.run-span.ensures in
    let o = rw c.in_ok-at.was at c.chunk-found.ensures.order in
    let n = rw (run_first _ h.columns.sound _ h.zoned _ _ d _ s.0 s.1 s.2) at (rw (h.all_forward, h.all_backward) at c.chunk-found.ensures.next) in
    record {
      end = rw (h.all_forward, h.all_backward) (next_chunk _ h.columns.sound _ h.zoned _ _ d _ s.0 s.1 s.2 (rw h.all_backward at c.requires.waiting.back) e _ _ (rw h.all_forward at o) _);
      still_poised = rw (h.all_forward, h.all_backward) (record { shut = c.chunk-found.ensures.marks; behind = run_behind _ h.columns.sound _ h.zoned _ _ d _ s.0 s.1 s.2 _ n });
    }
