use mathlib.Core.Path.{refl}
use native.Mathlib.Omega.{arith}
use Rattle.history.specs.Table.{cell}
use Rattle.records.proofs.Records.{most_length}
use Rattle.files.proofs.Measuring.{measure_none, measure_more, measure_end}
use Rattle.files.proofs.file_length.Goals as goal

pub loop-i-init : goal.loop-i-init
loop-i-init c = measure_none _ _

pub overflow_add-total : goal.overflow_add-total
overflow_add-total c = omega (arith, c.body_length.ensures, most_length (cell c.args.table.now c.loop-i.i 1))

pub overflow_add-total-in-loop-i : goal.overflow_add-total-in-loop-i
overflow_add-total-in-loop-i c = omega (arith, c.body_length.ensures, most_length (cell c.args.table.now c.loop-i.i 1), c.loop-i.invariant.most)

pub loop-i-preserved : goal.loop-i-preserved
loop-i-preserved c = measure_more _ _ _ _ c.loop-i.invariant (omega arith) _ c.body_length.ensures

pub returns : goal.returns
returns c = measure_end _ _ _ _ c.loop-i.invariant refl (omega arith)
