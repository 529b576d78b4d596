use Prim.Native.Nat.{◌+◌, ◌-◌}
use mathlib.Core.Path.{◌≡◌, ap}
use native.Mathlib.Omega.{arith}
use lib.ListN.{length}
use Rattle.text.specs.Decimal.{decimal}
use Rattle.text.proofs.Digits.{digits_none, digits_last, digits_more_length}
use Rattle.text.proofs.decimal_length.Goals as goal

pub loop-more-init : goal.loop-more-init
unfolding decimal
loop-more-init c = omega arith

pub returns-then-rest-lt10 : goal.returns-then-rest-lt10
returns-then-rest-lt10 c = omega (arith, c.loop-more.invariant, ap length (digits_last (20 - c.loop-more.more) c.loop-more.rest (omega arith) (omega arith)))

pub loop-more-preserved : goal.loop-more-preserved
loop-more-preserved c =
    let e : 20 - (c.loop-more.more + 1) ≡ 20 - c.loop-more.more - 1 = omega arith in
    rw e (omega (arith, c.loop-more.invariant, digits_more_length (20 - c.loop-more.more) c.loop-more.rest (omega arith) (omega arith)))

pub returns : goal.returns
returns c = omega (arith, c.loop-more.invariant, ap length (digits_none (20 - c.loop-more.more) c.loop-more.rest (omega arith)))
