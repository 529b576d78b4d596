-- The backward writes inside a run are marked, and the items joined.
use mathlib.Core.Path.{ap}
use native.Mathlib.Omega.{arith}
use lib.ListN.{length}
use Rattle.joining.proofs.Chunks.{sides_few, both_sides}
use Rattle.fzf.proofs.sides.Goals as goal

pub mark_inner-requires-clause-sides : goal.mark_inner-requires-clause-sides
mark_inner-requires-clause-sides c =
    let h = c.args.clusters.now in
    both_sides _ h.columns.sound _ h.zoned _ _ h.all_forward h.all_backward

pub mark_inner-requires-clause-backwards_in_bounds : goal.mark_inner-requires-clause-backwards_in_bounds
mark_inner-requires-clause-backwards_in_bounds c =
    let h = c.args.clusters.now in
    omega (arith, ap length h.all_backward, sides_few _ h.columns.sound _ h.zoned, c.requires.lent.inner)

pub mark_inner-requires-clause-marks_in_bounds : goal.mark_inner-requires-clause-marks_in_bounds
mark_inner-requires-clause-marks_in_bounds c =
    let h = c.args.clusters.now in
    let s = both_sides _ h.columns.sound _ h.zoned _ _ h.all_forward h.all_backward in
    λ i l. omega (arith, s.back i l, h.columns.sound.ending, c.requires.marks_room)
