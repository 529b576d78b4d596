-- The writes by falling finish are those of the columns.
use mathlib.Core.Path.{◌∙◌}
use Rattle.columns.proofs.Sorted.{falls_finish}
use Rattle.searches.proofs.walk_with.Goals as goal

pub search-requires-clause-falling_value : goal.search-requires-clause-falling_value
search-requires-clause-falling_value c = c.falls-m.ensures.1 ∙ falls_finish _ c.args.columns.now.sound.shape.long
