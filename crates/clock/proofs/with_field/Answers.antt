-- Where 64 bits do not hold the sum, the largest stamp doesn't either.
use mathlib.Core.Path.{◌∙◌, ap}
use native.Mathlib.Omega.{arith}
use Rattle.std.specs.Prelude.{Some}
use Rattle.clock.proofs.Reading.{no_count, no_field, field_over, stamp_over, stamp_held}
use Rattle.clock.proofs.with_field.Goals as goal

pub returns-in_err-v : goal.returns-in_err-v
returns-in_err-v c = c.from_residual.ensures ∙ no_count _ _ _ c.in_err-v.was

pub returns-in_err-x : goal.returns-in_err-x
returns-in_err-x c = c.from_residual-in_err-x.ensures ∙ no_field _ _ _ _ c.in_ok-v.was c.in_err-x.was

pub returns-then-limit-x : goal.returns-then-limit-x
returns-then-limit-x c = field_over _ _ _ _ c.in_ok-v.was _ c.in_ok-x.was c.if-limit-x.true

pub returns-in_err-units : goal.returns-in_err-units
returns-in_err-units c = c.from_residual-in_err-units.ensures ∙ stamp_over _ _ _ _ c.in_ok-v.was _ c.in_ok-x.was (omega arith) (omega (arith, c.in_err-units.ensures))

pub returns-in_err-sum : goal.returns-in_err-sum
returns-in_err-sum c = c.from_residual-in_err-sum.ensures ∙ stamp_over _ _ _ _ c.in_ok-v.was _ c.in_ok-x.was (omega arith) (omega (arith, c.in_ok-units.ensures, c.in_err-sum.ensures))

pub returns-then-sum-gt-LARGEST_STAMP : goal.returns-then-sum-gt-LARGEST_STAMP
returns-then-sum-gt-LARGEST_STAMP c = stamp_over _ _ _ _ c.in_ok-v.was _ c.in_ok-x.was (omega arith) (omega (arith, c.in_ok-units.ensures, c.in_ok-sum.ensures))

pub returns : goal.returns
returns c =
    ap Some (omega (arith, c.in_ok-units.ensures, c.in_ok-sum.ensures))
    ∙ stamp_held _ _ _ _ c.in_ok-v.was _ c.in_ok-x.was (omega arith) (omega (arith, c.in_ok-units.ensures, c.in_ok-sum.ensures))
