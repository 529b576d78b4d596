use native.Mathlib.Omega.{arith}
use Rattle.printing.proofs.Lines.{counted_more, counted_end, counted_small}
use Rattle.printing.proofs.lines_length.Goals as goal

pub overflow_add-total : goal.overflow_add-total
overflow_add-total c = omega (arith, counted_small _ _ _ _ _ _ (omega arith) c.line_length-total.ensures c.loop-i.invariant c.requires.w_bound)

pub loop-i-preserved : goal.loop-i-preserved
loop-i-preserved c = counted_more _ _ _ _ _ _ (omega arith) c.line_length-total.ensures c.loop-i.invariant

pub returns : goal.returns
returns c = counted_end _ _ _ _ _ (omega arith) c.loop-i.invariant
