use mathlib.Core.Path.{sym, ◌∙◌}
use native.Mathlib.Omega.{arith}
use lib.ListN.{length}
use Rattle.std.proofs.lemmas.Bool.{eqb-true, eqb-false}
use Rattle.parsing.proofs.Values.{number_empty, read_none, read_more, read_other, read_end}
use Rattle.parsing.proofs.number_of.Goals as goal

pub returns-then-is_empty : goal.returns-then-is_empty
returns-then-is_empty c = sym (number_empty _ (omega (arith, eqb-true (length c.args.text.now) 0 (sym (c.if-is_empty.ensures)))))

pub loop-byte-init : goal.loop-byte-init
loop-byte-init c = read_none _ (omega (arith, eqb-false (length c.args.text.now) 0 (sym (c.if-is_empty.ensures))))

pub returns-in_err-value : goal.returns-in_err-value
returns-in_err-value c = c.from_residual.ensures ∙ sym (read_other _ c.loop-byte.invariant (omega arith) (sym (c.in_err-value.ensures)))

pub loop-byte-preserved : goal.loop-byte-preserved
loop-byte-preserved c = read_more _ c.loop-byte.invariant _ (omega arith) (sym (c.in_ok-value.ensures))

pub returns : goal.returns
returns c = sym (read_end _ c.loop-byte.invariant (omega arith))
