use mathlib.Core.Path.{ap, sym, ◌∙◌}
use mathlib.Core.Bool.{false}
use native.Mathlib.Omega.{arith}
use lib.ListN.{length}
use lib.Seq.{length-take-le}
use Rattle.lists.specs.Lists.{keep}
use Rattle.chunking.specs.Chunks.{lies}
use Rattle.chunking.proofs.Sides.{side_rises}
use Rattle.joining.proofs.Chunks.{sides_inside, sides_few, run_inside, chunk_choice, chunk_made}
use Rattle.joining.proofs.chunk.Goals as goal

pub low_end-bottom-requires : goal.low_end-bottom-requires
low_end-bottom-requires c = run_inside _ c.args.clusters.now.columns.sound _ c.args.clusters.now.zoned _ c.requires.cut

pub enclose-found-requires-clause-inside : goal.enclose-found-requires-clause-inside
enclose-found-requires-clause-inside c = rw c.args.clusters.now.all_backward (sides_inside _ c.args.clusters.now.columns.sound _ c.args.clusters.now.zoned false)

pub enclose-found-requires-clause-list_in_bounds : goal.enclose-found-requires-clause-list_in_bounds
enclose-found-requires-clause-list_in_bounds c = omega (arith, ap length c.args.clusters.now.all_backward, sides_few _ c.args.clusters.now.columns.sound _ c.args.clusters.now.zoned, c.args.clusters.now.few, c.requires.lent.inner)

pub enclose-found-requires-clause-rises : goal.enclose-found-requires-clause-rises
enclose-found-requires-clause-rises c = rw c.args.clusters.now.all_backward (side_rises c.args.clusters.now.columns.finish.now c.args.clusters.now.late.now c.args.clusters.now.columns.chains.writer.now false)

pub slice_bounds-chosen-end : goal.slice_bounds-chosen-end
slice_bounds-chosen-end c = omega (arith, c.enclose-found.ensures.few, ap length c.args.clusters.now.all_backward, sides_few _ c.args.clusters.now.columns.sound _ c.args.clusters.now.zoned, c.args.clusters.now.few, c.enclose-found.auto.out, c.requires.lent.inner)

pub slice_bounds-chosen-end-2 : goal.slice_bounds-chosen-end-2
slice_bounds-chosen-end-2 c = sym (length-take-le _ _ (omega (arith, c.enclose-found.ensures.few, ap length c.args.clusters.now.all_backward, sides_few _ c.args.clusters.now.columns.sound _ c.args.clusters.now.zoned, c.args.clusters.now.few, c.enclose-found.auto.out, c.requires.lent.inner)))

pub choose-at-requires-clause-chunk : goal.choose-at-requires-clause-chunk
choose-at-requires-clause-chunk c =
    let i = c.enclose-found.ensures.written ∙ ap (keep (lies _ _ _ _)) c.args.clusters.now.all_backward in
    rw i (chunk_choice _ c.args.clusters.now.columns.sound c.args.clusters.now.few _ c.args.clusters.now.zoned _ c.requires.cut _ c.args.top c.low_end-bottom.ensures _ _ _ _ c.requires.lent)

pub returns-clause-order : goal.returns-clause-order
returns-clause-order c =
    let i = c.enclose-found.ensures.written ∙ ap (keep (lies _ _ _ _)) c.args.clusters.now.all_backward in
    chunk_made _ c.args.clusters.now.columns.sound c.args.clusters.now.few _ c.args.clusters.now.zoned _ c.requires.cut _ c.args.top c.low_end-bottom.ensures _ (rw i at c.choose-at.ensures.end)
