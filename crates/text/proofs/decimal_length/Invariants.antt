-- The loop takes digits off the end: the whole has as many digits as were counted and are left, by digits_last and digits_more_length.
use Prim.Native.Nat.{◌+◌, ◌-◌}
use mathlib.Core.Path.{◌≡◌}
use lib.ListN.{length}
use Rattle.text.specs.Decimal.{digits, decimal}
use Rattle.text.proofs.decimal_length.Given as goal

abbrev pub invariant-loop-more : goal.invariant-loop-more
invariant-loop-more l = length (decimal l.n) ≡ l.more + length (digits (20 - l.more) l.rest)
