-- The columns are those of the prepared history, and an order of it fits the list.
use Rattle.zone_list.proofs.Listing.{made_sound}
use Rattle.marker.proofs.Working.{found_fits, work_ends}
use Rattle.marker.proofs.mark_sized.Goals as goal

pub invariant_of-columns : goal.invariant_of-columns
invariant_of-columns g c = record { sound = made_sound c.requires.listed.1 c.fill.ensures }

pub answer-requires : goal.answer-requires
answer-requires g c = found_fits c.requires.listed.1 _ c.fill.ensures c.search-found.ensures _ c.requires.list_room

pub returns : goal.returns
returns g c = λ register l. work_ends l _ _ _ _ c.fill.ensures c.search-found.ensures c.answer.ensures
