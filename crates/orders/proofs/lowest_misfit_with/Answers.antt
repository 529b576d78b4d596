use mathlib.Core.Path.{refl, sym}
use native.Mathlib.Omega.{arith}
use lib.ListN.{length}
use Rattle.lists.specs.Lists.{first}
use Rattle.lists.proofs.Scans.{scan_none, scan_hit, scan_more, scan_end}
use Rattle.lists.proofs.Members.{first_cons_hit, first_cons_miss}
use Rattle.orders.proofs.Seen.{seen_none, seen_more, seen_misfits, fit_below}
use Rattle.orders.proofs.lowest_misfit_with.Goals as goal

pub loop-p-init : goal.loop-p-init
loop-p-init c = (scan_none _ _ refl, seen_none _ _ _ refl c.requires.by_index)

pub unfit-requires : goal.unfit-requires
unfit-requires c = omega (arith, c.requires.table_in_bounds, c.loop-p.invariant.1.long)

pub returns-then-unfit : goal.returns-then-unfit
returns-then-unfit c = sym (scan_hit _ _ _ _ (omega arith) c.loop-p.invariant.0 (λ r. first_cons_hit _ _ r _ (seen_misfits c.args.table.now c.args.register c.args.list.now (length c.args.seen.now) c.loop-p.p c.requires.table_in_bounds c.loop-p.seen c.loop-p.invariant.1 c.unfit.result _ c.unfit.ensures c.if-unfit.true)))

pub offset_bounds-seen-row : goal.offset_bounds-seen-row
offset_bounds-seen-row c =
    let below = fit_below c.args.table.now c.args.register c.args.list.now (length c.args.seen.now) c.loop-p.p c.requires.table_in_bounds c.loop-p.seen c.unfit.result c.unfit.ensures c.if-unfit.false in
    omega (arith, c.loop-p.invariant.1.long)

pub bounds-seen-row : goal.bounds-seen-row
bounds-seen-row c =
    let below = fit_below c.args.table.now c.args.register c.args.list.now (length c.args.seen.now) c.loop-p.p c.requires.table_in_bounds c.loop-p.seen c.unfit.result c.unfit.ensures c.if-unfit.false in
    omega (arith, c.loop-p.invariant.1.long)

pub loop-p-preserved : goal.loop-p-preserved
loop-p-preserved c =
    let below = fit_below c.args.table.now c.args.register c.args.list.now (length c.args.seen.now) c.loop-p.p c.requires.table_in_bounds c.loop-p.seen c.unfit.result c.unfit.ensures c.if-unfit.false in
    (scan_more _ _ _ _ (omega arith) c.loop-p.invariant.0 (λ r. first_cons_miss _ _ r _ (seen_misfits c.args.table.now c.args.register c.args.list.now (length c.args.seen.now) c.loop-p.p c.requires.table_in_bounds c.loop-p.seen c.loop-p.invariant.1 c.unfit.result _ c.unfit.ensures c.if-unfit.false)), seen_more _ _ c.loop-p.p _ c.loop-p.seen refl below c.loop-p.invariant.1)

pub returns : goal.returns
unfolding first
returns c = sym (scan_end _ _ _ (omega arith) c.loop-p.invariant.0)
