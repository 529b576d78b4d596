use Rattle.roads.proofs.Examining.{rows_rising, passed_fit, examined_refused, examined_passed}
use Rattle.roads.proofs.examine.Goals as goal

pub examine_listed-met-requires : goal.examine_listed-met-requires
examine_listed-met-requires c = rows_rising _ c.requires.sound _ _ c.requires.own.1

pub sort_rows-requires-clause-fit : goal.sort_rows-requires-clause-fit
sort_rows-requires-clause-fit c =
    passed_fit _ c.requires.sound _ _ c.requires.own.1 _ c.examine_listed-met.ensures c.if-met-eq0.true

pub returns-then-met-eq0 : goal.returns-then-met-eq0
returns-then-met-eq0 c = λ register e. examined_passed _ c.requires.sound register _ e _ c.examine_listed-met.ensures _ c.sort_rows.ensures

pub returns-else-met-eq0 : goal.returns-else-met-eq0
returns-else-met-eq0 c = λ register e. examined_refused _ c.requires.sound register _ e _ c.examine_listed-met.ensures c.if-met-eq0.false
