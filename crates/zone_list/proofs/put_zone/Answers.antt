use mathlib.Core.Path.{refl, ◌∙◌}
use Rattle.zone_list.proofs.Listing.{four_stored}
use Rattle.zone_list.proofs.put_zone.Goals as goal
use Rattle.zone_list.proofs.put_zone.Goals.{then-ahead, else-ahead}

pub returns : goal.returns
returns c =
    elim c.if-ahead.branch [
      | then-ahead w ↦ rw w.if-ahead.true (four_stored c.args.list.now c.args.at _ _ c.requires refl (c.copy_from_slice.ensures.after ∙ w.numbers-is))
      | else-ahead w ↦ rw w.if-ahead.false (four_stored c.args.list.now c.args.at _ _ c.requires refl (c.copy_from_slice.ensures.after ∙ w.numbers-is))
    ]
