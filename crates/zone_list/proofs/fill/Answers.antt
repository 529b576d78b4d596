-- The zones are those of the columns, and where the list has the places, the numbers of the writes by low end stand at its front.
use mathlib.Core.Path.{◌∙◌}
use native.Mathlib.Omega.{arith}
use Rattle.columns.proofs.Listed.{listed_fit}
use Rattle.zones.proofs.Zone.{lates_zoned}
use Rattle.zones.proofs.LastStarts.{sound_ends}
use Rattle.zone_list.proofs.Timing.{timely}
use Rattle.zone_list.proofs.Listing.{made_size, put_takes, fill_short, fill_full}
use Rattle.zone_list.proofs.fill.Goals as goal

pub by_low-m-requires-clause-ends : goal.by_low-m-requires-clause-ends
by_low-m-requires-clause-ends c = sound_ends _ c.args.columns.now.sound

pub by_low-m-requires-clause-late_len : goal.by_low-m-requires-clause-late_len
by_low-m-requires-clause-late_len c = omega (arith, made_size c.requires.listed.1 c.requires.made)

pub by_low-m-requires-clause-low_room : goal.by_low-m-requires-clause-low_room
by_low-m-requires-clause-low_room c = omega (arith, made_size c.requires.listed.1 c.requires.made)

pub by_low-m-requires-clause-list_room : goal.by_low-m-requires-clause-list_room
by_low-m-requires-clause-list_room c = omega (arith, made_size c.requires.listed.1 c.requires.made)

pub put_zones-requires-clause-fit : goal.put_zones-requires-clause-fit
put_zones-requires-clause-fit c = listed_fit c.requires.listed.1

pub put_zones-requires-clause-timely : goal.put_zones-requires-clause-timely
put_zones-requires-clause-timely c = timely c.requires.listed.1 c.requires.made

pub put_zones-requires-clause-writes : goal.put_zones-requires-clause-writes
put_zones-requires-clause-writes c =
    put_takes c.requires.listed.1 c.requires.made _ (lates_zoned _ c.args.columns.now.sound _ c.by_low-m.ensures.lates) _ _ c.by_low-m.ensures.upper_bound (c.by_low-m.auto.list ∙ c.requires.places_value) c.by_low-m.ensures.list_after

pub returns-then-m-list-clause-zoned : goal.returns-then-m-list-clause-zoned
returns-then-m-list-clause-zoned c = lates_zoned _ c.args.columns.now.sound _ c.by_low-m.ensures.lates

pub returns-then-m-list-clause-of_rows : goal.returns-then-m-list-clause-of_rows
returns-then-m-list-clause-of_rows c =
    fill_full c.requires.made c.requires.listed _ (lates_zoned _ c.args.columns.now.sound _ c.by_low-m.ensures.lates) _ _ c.by_low-m.ensures.upper_bound (c.by_low-m.auto.list ∙ c.requires.places_value) c.by_low-m.ensures.list_after _ _
    (omega arith) c.put_zones.ensures

pub returns-else-m-list-clause-zoned : goal.returns-else-m-list-clause-zoned
returns-else-m-list-clause-zoned c = lates_zoned _ c.args.columns.now.sound _ c.by_low-m.ensures.lates

pub returns-else-m-list-clause-of_rows : goal.returns-else-m-list-clause-of_rows
returns-else-m-list-clause-of_rows c =
    fill_short c.requires.made c.requires.listed _ (lates_zoned _ c.args.columns.now.sound _ c.by_low-m.ensures.lates) _ _ c.by_low-m.ensures.upper_bound (c.by_low-m.auto.list ∙ c.requires.places_value) c.by_low-m.ensures.list_after _
    (omega arith)
