use Prim.Native.Nat.{◌*◌}
use mathlib.Core.Path.{refl, ap, ap₂, ◌∙◌}
use mathlib.Core.Bool.{Bool}
use mathlib.Core.List.{◌∷◌}
use native.Mathlib.Omega.{arith}
use lib.ListN.{get_or}
use lib.Seq.{sets}
use Rattle.lists.proofs.Entries.{entered_none, entered_more, entered_end}
use Rattle.methods.specs.declared.Zone.{Zone}
use Rattle.methods.specs.Zones.{forward}
use Rattle.zone_list.specs.ZoneList.{directed}
use Rattle.zone_list.proofs.Listing.{four_at}
use Rattle.zone_list.proofs.put_zones.Goals as goal

pub loop-i-init : goal.loop-i-init
loop-i-init c = entered_none _ _ _

pub loop-i-preserved : goal.loop-i-preserved
loop-i-preserved c =
    let w = get_or c.args.places.now c.loop-i.i 0 in
    entered_more _ _ _ 4 (four_at c.args.table.now c.args.rows.now c.args.columns.now.finish.now c.args.columns.now.chains.writer.now c.args.late.now) c.loop-i.i _ _ _ (omega arith) refl
    (c.put_zone.ensures
    ∙ ap₂ (λ (b : Bool) (z : Zone). sets c.loop-i.list (c.loop-i.i * 4) (get_or c.args.rows.now w 0 ∷ directed b z)) (c.forward.ensures ∙ ap forward c.of.ensures) c.stamps-z.ensures)
    c.loop-i.invariant

pub returns : goal.returns
returns c = entered_end _ _ _ 4 (four_at c.args.table.now c.args.rows.now c.args.columns.now.finish.now c.args.columns.now.chains.writer.now c.args.late.now) _ _ (omega arith) c.requires.list_room c.loop-i.invariant
