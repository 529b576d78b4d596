-- The list is sorted by the column of low ends.
use mathlib.Core.Path.{◌∙◌, ap}
use native.Mathlib.Omega.{arith}
use lib.Seq.{length-take-le, take_at}
use Rattle.lists.specs.Sorts.{sort}
use Rattle.sorting.specs.Keys.{rises}
use Rattle.zones.proofs.ByLow.{sorted_by_low}
use Rattle.zones.proofs.by_low.Goals as goal

pub returns-clause-list_after : goal.returns-clause-list_after
returns-clause-list_after c =
    take_at _ _ c.low_ends-m.result (c.sort_by.auto.list ∙ length-take-le c.low_ends-m.result _ (omega arith))
    ∙ c.sort_by.ensures
    ∙ ap (sort (rises c.low_ends-m.new.low)) c.low_ends-m.ensures.list_after
    ∙ sorted_by_low _ _ _ _ c.low_ends-m.ensures.lows
