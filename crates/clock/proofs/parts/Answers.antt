-- The parts of the text are those of the definition.
use mathlib.Core.Path.{refl, sym}
use native.Mathlib.Omega.{arith}
use lib.Seq.{length-take-le}
use Rattle.clock.proofs.Reading.{read_parts}
use Rattle.clock.proofs.parts.Goals as goal

pub slice_bounds-days_in-end : goal.slice_bounds-days_in-end
slice_bounds-days_in-end c = sym (length-take-le _ _ (omega arith))

pub returns : goal.returns
returns c =
    read_parts c.args.text.now _ refl _ _ _ _ _ _ _ _ _
    c.days_in-days.ensures
    c.field.ensures
    c.with_field-hours.ensures
    c.field-2.ensures
    c.with_field-minutes.ensures
    c.field-3.ensures
    c.with_field-seconds.ensures
    c.field-4.ensures
    c.with_field.ensures
