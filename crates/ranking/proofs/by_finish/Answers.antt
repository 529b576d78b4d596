-- The positions by row, and then by rising finish (`sort_both`).
use mathlib.Core.Path.{ap, ◌∙◌}
use Rattle.lists.specs.Sorts.{sort}
use Rattle.sorting.specs.Keys.{rises}
use Rattle.ranking.proofs.ByFinish.{sort_both}
use Rattle.ranking.proofs.by_finish.Goals as goal

pub returns : goal.returns
returns c = c.sort_by.ensures ∙ ap (sort (rises c.args.finishes.now)) c.by_row.ensures ∙ sort_both c.args.rows.now c.args.finishes.now _
