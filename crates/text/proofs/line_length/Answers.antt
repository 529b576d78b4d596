use mathlib.Core.Path.{ap, sym, ◌∙◌}
use native.Mathlib.Omega.{arith}
use Rattle.std.proofs.lemmas.Bool.{eqb-true, eqb-false}
use lib.ListN.{length, get_or}
use Rattle.text.proofs.Digits.{decimal_length}
use Rattle.text.proofs.Joins.{line_none, line_behind, behind_length, behind_end}
use Rattle.text.proofs.line_length.Goals as goal

pub returns-then-is_empty : goal.returns-then-is_empty
returns-then-is_empty c = sym (ap length (line_none c.args.numbers.now (omega (arith, eqb-true (length c.args.numbers.now) 0 (sym c.is_empty.ensures ∙ c.if-is_empty.true)))))

pub overflow_add-total : goal.overflow_add-total
overflow_add-total c = omega (arith, c.decimal_length.ensures, decimal_length (get_or c.args.numbers.now c.loop-n.n-index 0))

pub overflow_add-total-in-loop-n : goal.overflow_add-total-in-loop-n
overflow_add-total-in-loop-n c = omega (arith, c.decimal_length.ensures, decimal_length (get_or c.args.numbers.now c.loop-n.n-index 0))

pub loop-n-preserved : goal.loop-n-preserved
loop-n-preserved c = (omega (arith, c.decimal_length.ensures, decimal_length (get_or c.args.numbers.now c.loop-n.n-index 0)), omega (arith, c.decimal_length.ensures, c.loop-n.invariant.1, behind_length c.args.numbers.now c.loop-n.n-index (omega arith)))

pub returns : goal.returns
returns c = omega (arith, c.loop-n.invariant.1, line_behind c.args.numbers.now (omega (arith, eqb-false (length c.args.numbers.now) 0 (sym c.is_empty.ensures ∙ c.if-is_empty.false))), behind_end c.args.numbers.now c.loop-n.n-index (omega arith))
