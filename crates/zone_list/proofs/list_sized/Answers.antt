-- The columns are those of the prepared history.
use Rattle.zone_list.proofs.Listing.{made_sound}
use Rattle.zone_list.proofs.list_sized.Goals as goal

pub invariant_of-columns : goal.invariant_of-columns
invariant_of-columns g c = record { sound = made_sound c.requires.listed.1 c.fill.ensures }
