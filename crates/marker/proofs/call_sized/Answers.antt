-- A refusal leaves the list as it was; else the outcome is that of the register's rows.
use mathlib.Core.Path.{◌≡◌, refl}
use native.Mathlib.Omega.{arith}
use Rattle.screening.proofs.Fronts.{front_in, front_rows}
use Rattle.marker.specs.Questions.{number}
use Rattle.marker.proofs.Refusing.{met_counted, mark_refused, mark_unasked, mark_passes, mark_marked}
use Rattle.marker.proofs.call_sized.Goals as goal

pub returns-in_default : goal.returns-in_default
returns-in_default g c =
    let met = c.refusal-met.ensures.tested c.args.question c.unasked.ensures _ refl in
    mark_refused _ _ _ _ _ _ met (mark_unasked _ _ _ 0 _ (rw c.in_default.is at c.try_from-asked.ensures) _ met)

pub returns-then-met-ne0 : goal.returns-then-met-ne0
returns-then-met-ne0 g c =
    mark_refused _ _ _ _ _ _ (c.refusal-met.ensures.tested c.args.question c.unasked.ensures _ refl) c.if-met-ne0.true

pub whole_as_front-mark_gathered : goal.whole_as_front-mark_gathered
whole_as_front-mark_gathered g c =
    let met = c.refusal-met.ensures.tested c.args.question c.unasked.ensures c.args.list.now refl in
    let k = front_in _ _ _ (c.refusal-met.ensures.gathered c.if-met-ne0.false) _ (met_counted _ _ _ c.args.list.now _ met c.if-met-ne0.false) in
    (omega arith, omega arith)

pub mark_gathered-requires-clause-passes : goal.mark_gathered-requires-clause-passes
mark_gathered-requires-clause-passes g c =
    let met = c.refusal-met.ensures.tested c.args.question c.unasked.ensures c.args.list.now refl in
    let e : number c.in-Ok.asked ≡ c.args.question = rw c.in-Ok.is at c.try_from-asked.ensures in
    rw e (mark_passes _ _ _ 0 _ _ met c.if-met-ne0.false)

pub mark_gathered-requires-clause-rows_value : goal.mark_gathered-requires-clause-rows_value
mark_gathered-requires-clause-rows_value g c =
    let met = c.refusal-met.ensures.tested c.args.question c.unasked.ensures c.args.list.now refl in
    front_rows _ _ _ (c.refusal-met.ensures.gathered c.if-met-ne0.false) _ (met_counted _ _ _ c.args.list.now _ met c.if-met-ne0.false)

pub returns : goal.returns
returns g c =
    let met = c.refusal-met.ensures.tested c.args.question c.unasked.ensures c.args.list.now refl in
    let e : number c.in-Ok.asked ≡ c.args.question = rw c.in-Ok.is at c.try_from-asked.ensures in
    mark_marked _ _ _ _ _ _ met c.if-met-ne0.false _ (rw e at c.mark_gathered.ensures)
