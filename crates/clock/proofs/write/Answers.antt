-- The tests in their sequence; the days, and then what stands behind them, are two parts of one text.
use Prim.Native.Nat.{ℕ, ◌/◌}
use mathlib.Core.Path.{ap, ◌∙◌}
use native.Mathlib.Omega.{arith}
use Rattle.history.specs.Answer.{passed}
use Rattle.text.proofs.Digits.{decimal_length}
use Rattle.clock.proofs.Exact.{clock_length}
use Rattle.clock.proofs.Writing.{written_large, written_short, written, days_time}
use Rattle.clock.proofs.write.Goals as goal

pub returns-then-stamp-gt-LARGEST_STAMP : goal.returns-then-stamp-gt-LARGEST_STAMP
returns-then-stamp-gt-LARGEST_STAMP c =
    let whole = written_large _ _ _ (omega arith) c.at.ensures in record { outcome = whole.0; back = whole.1 }

pub overflow_add-length : goal.overflow_add-length
overflow_add-length c = omega (arith, c.decimal_length-length.ensures, (decimal_length (c.args.stamp / 86400000)).1)

pub returns-then-text-length : goal.returns-then-text-length
returns-then-text-length c =
    let long = clock_length c.args.stamp in
    let whole = written_short _ _ _ (omega arith) (omega (arith, long, c.decimal_length-length.ensures)) c.at-then-text-length.ensures in record { outcome = whole.0; back = whole.1 }

pub returns : goal.returns
returns c =
    let text = days_time c.args.stamp c.args.text.now _ _ _ c.put_number-at.ensures.0 c.put_number-at.ensures.1 c.put_time.ensures in
    let long = clock_length c.args.stamp in
    let whole = written c.args.stamp c.args.text.now _ (omega arith) _ (omega (arith, c.decimal_length-length.ensures, long))
    (c.passed.ensures ∙ ap (λ (n : ℕ). passed n) (omega (arith, c.decimal_length-length.ensures, long))) text in record { outcome = whole.0; back = whole.1 }
