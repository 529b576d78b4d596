use mathlib.Core.Path.{refl, ap, sym, ◌∙◌}
use mathlib.Core.Bool.{false}
use native.Mathlib.Omega.{arith}
use lib.ListN.{length}
use Rattle.zones.specs.Zones.{Inside}
use Rattle.joining.proofs.Chunks.{sides_inside}
use Rattle.joining.proofs.Joining.{part_whole, poised_none, lent_again, over_true, join_none, join_skip, join_waits, join_end, join_fails, join_room, join_on, goes_on}
use Rattle.joining.proofs.join.Goals as goal

pub loop-cursor-init : goal.loop-cursor-init
loop-cursor-init c = (join_none _ _ c.args.clusters.now.zoned _ c.requires.order_room, poised_none _ _ _ _ _ c.requires.shut, c.requires.lent, refl, refl, refl, refl, refl)

pub skip-requires-clause-marks_in_bounds : goal.skip-requires-clause-marks_in_bounds
skip-requires-clause-marks_in_bounds c =
    let h = c.args.clusters.now in
    let n : Inside h.columns.finish.now h.backwards.now = rw h.all_backward (sides_inside _ h.columns.sound _ h.zoned false) in
    λ i l. omega (arith, n i l, h.columns.sound.ending, c.requires.marks_room)

pub returns-then-over : goal.returns-then-over
returns-then-over c =
    let h = c.args.clusters.now in
    let s = rw (h.all_forward, h.all_backward) at (c.skip.ensures h.columns.finish.now h.late.now h.forwards.now c.requires.hangs) in
    let k = join_skip _ _ h.zoned _ _ _ _ c.loop-cursor.invariant.0 _ s in
    let o = rw (h.all_forward, h.all_backward) at (over_true _ _ _ _ (sym c.over.ensures ∙ c.if-over.true)) in
    join_end _ _ h.zoned _ _ _ _ k o.0 o.1

pub item-requires-clause-waiting : goal.item-requires-clause-waiting
item-requires-clause-waiting c =
    let h = c.args.clusters.now in
    let s = rw (h.all_forward, h.all_backward) at (c.skip.ensures h.columns.finish.now h.late.now h.forwards.now c.requires.hangs) in
    let o = rw (h.all_forward, h.all_backward) at (sym c.over.ensures ∙ c.if-over.false) in
    rw (h.all_forward, h.all_backward) (join_waits _ _ h.zoned _ _ _ _ c.loop-cursor.invariant.0 _ s o)

pub returns-in_default : goal.returns-in_default
returns-in_default c =
    let h = c.args.clusters.now in
    let s = rw (h.all_forward, h.all_backward) at (c.skip.ensures h.columns.finish.now h.late.now h.forwards.now c.requires.hangs) in
    let k = join_skip _ _ h.zoned _ _ _ _ c.loop-cursor.invariant.0 _ s in
    join_fails _ _ h.zoned _ _ _ _ k _ (rw (h.all_forward, h.all_backward) at c.in_default.ensures.end) _

pub append-m-requires : goal.append-m-requires
append-m-requires c =
    let h = c.args.clusters.now in
    let s = rw (h.all_forward, h.all_backward) at (c.skip.ensures h.columns.finish.now h.late.now h.forwards.now c.requires.hangs) in
    let k = join_skip _ _ h.zoned _ _ _ _ c.loop-cursor.invariant.0 _ s in
    let g = goes_on (rw (h.all_forward, h.all_backward) at c.in-Some.ensures.end) in
    let few = join_room _ _ h.zoned _ _ _ _ k _ _ g c.requires.known in
    rw (part_whole c.item.new.part c.in-Some.next.at) (omega (arith, few, c.loop-cursor.invariant.0.long))

pub loop-cursor-smaller : goal.loop-cursor-smaller
loop-cursor-smaller c =
    let h = c.args.clusters.now in
    let s = rw (h.all_forward, h.all_backward) at (c.skip.ensures h.columns.finish.now h.late.now h.forwards.now c.requires.hangs) in
    let g = goes_on (rw (h.all_forward, h.all_backward) at c.in-Some.ensures.end) in
    omega (arith, g.on, g.forth, g.back, s.from, ap length h.all_forward, ap length h.all_backward)

pub loop-cursor-preserved : goal.loop-cursor-preserved
loop-cursor-preserved c =
    let h = c.args.clusters.now in
    let s = rw (h.all_forward, h.all_backward) at (c.skip.ensures h.columns.finish.now h.late.now h.forwards.now c.requires.hangs) in
    let k = join_skip _ _ h.zoned _ _ _ _ c.loop-cursor.invariant.0 _ s in
    let g = goes_on (rw (h.all_forward, h.all_backward) at c.in-Some.ensures.end) in
    let o = rw (part_whole c.item.new.part c.in-Some.next.at) at c.append-m.ensures in (
      join_on _ _ h.zoned _ _ _ _ k _ _ g c.requires.known c.append-m.new.order _ c.append-m.auto.order o.0 o.1,
      rw (h.all_forward, h.all_backward) at c.in-Some.ensures.still_poised,
      lent_again c.loop-cursor.invariant.2 _ _ _ _ c.item.auto.list c.item.auto.turn c.item.auto.placed c.item.auto.part,
      c.item.auto.list ∙ c.loop-cursor.invariant.3,
      c.item.auto.turn ∙ c.loop-cursor.invariant.4,
      c.item.auto.placed ∙ c.loop-cursor.invariant.5,
      c.item.auto.part ∙ c.loop-cursor.invariant.6,
      c.append-m.auto.order ∙ c.loop-cursor.invariant.7,
    )
