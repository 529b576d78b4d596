use Prim.Native.Nat.{◌+◌, ◌-◌, ◌*◌}
use mathlib.Core.Path.{sym, ap, ◌∙◌}
use native.Mathlib.Omega.{arith}
use Rattle.parsing.specs.Numbers.{held}
use Rattle.parsing.proofs.Values.{says_out, says_in, held_large, held_iff}
use Rattle.parsing.proofs.appended.Goals as goal

pub returns-then-not-is_ascii_digit : goal.returns-then-not-is_ascii_digit
returns-then-not-is_ascii_digit c = sym (says_out c.args.value c.args.byte c.if-not-is_ascii_digit.ensures.cases)

pub returns-in_err-tens : goal.returns-in_err-tens
returns-in_err-tens c =
    let digit = c.if-not-is_ascii_digit.ensures.cases in
    c.from_residual.ensures ∙ sym (says_in c.args.value c.args.byte digit.0 digit.1 ∙ held_large (c.args.value * 10 + (c.args.byte - 48)) (omega (arith, c.in_err-tens.ensures)))

pub returns : goal.returns
returns c =
    let digit = c.if-not-is_ascii_digit.ensures.cases in
    held_iff _ _ c.checked_add.ensures ∙ sym (says_in c.args.value c.args.byte digit.0 digit.1 ∙ ap held (omega (arith, c.in_ok-tens.ensures, c.from.ensures)))
