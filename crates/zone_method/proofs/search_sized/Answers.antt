-- The list decides for every history that has the columns.
use mathlib.Core.Path.{◌∙◌}
use native.Mathlib.Omega.{arith}
use Rattle.zone_method.proofs.Deciding.{filled_decides}
use Rattle.zone_method.proofs.search_sized.Goals as goal

pub settle-requires-clause-says : goal.settle-requires-clause-says
settle-requires-clause-says g c = λ H o. c.decide-one.ensures ∙ filled_decides c.requires.made c.requires.listed c.fill-m.ensures.zoned c.fill-m.ensures.of_rows (omega arith) H o
