-- The search of each question is one by the method of the question.
use native.Mathlib.Omega.{arith}
use Rattle.methods.specs.Zones.{zones}
use Rattle.methods.specs.Lbt.{lbt}
use Rattle.methods.specs.Fzf.{fzf}
use Rattle.methods.specs.Mark.{untried, walked}
use Rattle.zone_list.proofs.Listing.{made_size}
use Rattle.marker.proofs.Asking.{searched_by, method_one, method_two, method_three}
use Rattle.marker.proofs.search.Goals as goal

pub walk-requires-clause-few : goal.walk-requires-clause-few
walk-requires-clause-few c = omega (arith, made_size c.requires.listed.1 c.requires.made)

pub walk-requires-clause-order_room : goal.walk-requires-clause-order_room
walk-requires-clause-order_room c = omega (arith, made_size c.requires.listed.1 c.requires.made)

pub search-requires-in-Fzf-clause-few : goal.search-requires-in-Fzf-clause-few
search-requires-in-Fzf-clause-few c = omega (arith, made_size c.requires.listed.1 c.requires.made)

pub search-requires-in-Fzf-clause-order_room : goal.search-requires-in-Fzf-clause-order_room
search-requires-in-Fzf-clause-order_room c = omega (arith, made_size c.requires.listed.1 c.requires.made)

pub returns-in-Zones : goal.returns-in-Zones
returns-in-Zones c = rw c.in-Zones.is (searched_by (λ H. untried (zones H)) _ method_one (c.search.ensures _))

pub returns-in-Lbt : goal.returns-in-Lbt
returns-in-Lbt c = rw c.in-Lbt.is (searched_by (λ H. walked (lbt H)) _ method_two c.walk.ensures)

pub returns-in-Fzf : goal.returns-in-Fzf
returns-in-Fzf c = rw c.in-Fzf.is (searched_by (λ H. untried (fzf H)) _ method_three (c.search-in-Fzf.ensures _))
