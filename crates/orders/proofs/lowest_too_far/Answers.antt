-- Each array is lent as long as the list is.
use mathlib.Core.Path.{sym}
use lib.Seq.{length-take-le}
use Rattle.orders.proofs.Far.{order_short}
use Rattle.orders.proofs.lowest_too_far.Goals as goal

pub slice_bounds-writer-end : goal.slice_bounds-writer-end
slice_bounds-writer-end c = order_short c.args.table.now c.args.list.now c.requires

pub slice_bounds-lowest_too_far_with-end : goal.slice_bounds-lowest_too_far_with-end
slice_bounds-lowest_too_far_with-end c = sym (length-take-le _ _ (order_short c.args.table.now c.args.list.now c.requires))

pub slice_bounds-counts-end : goal.slice_bounds-counts-end
slice_bounds-counts-end c = order_short c.args.table.now c.args.list.now c.requires

pub slice_bounds-lowest_too_far_with-end-2 : goal.slice_bounds-lowest_too_far_with-end-2
slice_bounds-lowest_too_far_with-end-2 c = sym (length-take-le _ _ (order_short c.args.table.now c.args.list.now c.requires))

pub lowest_too_far_with-requires : goal.lowest_too_far_with-requires
lowest_too_far_with-requires c =
    let short = order_short c.args.table.now c.args.list.now c.requires in
    record { ordered = c.requires; writer_len = length-take-le _ _ short; counts_len = length-take-le _ _ short }
