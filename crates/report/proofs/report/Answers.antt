-- The summary refuses what the report refuses, or leaves its numbers at the front of the array.
use native.Mathlib.Omega.{arith}
use Rattle.summary.proofs.Telling.{meant}
use Rattle.report.proofs.Reporting.{report_refused, lines_few, numbers_long, numbers_in, report_printed}
use Rattle.report.proofs.report.Goals as goal

pub returns-then-summed-ne0 : goal.returns-then-summed-ne0
returns-then-summed-ne0 c = record { outcome = report_refused _ _ _ _ c.summary-summed.ensures.outcome c.if-summed-ne0.true; said = meant _ }

pub overflow_mul-n : goal.overflow_mul-n
overflow_mul-n c = omega (arith, lines_few _ c.args.out.now _ _ c.summary-summed.ensures.outcome (omega arith))

pub slice_bounds-numbers-end : goal.slice_bounds-numbers-end
slice_bounds-numbers-end c = numbers_in _ c.args.out.now _ _ c.summary-summed.ensures.outcome (omega arith)

pub slice_bounds-headed-end-2 : goal.slice_bounds-headed-end-2
slice_bounds-headed-end-2 c = numbers_long _ c.args.out.now _ _ c.summary-summed.ensures.outcome (omega arith)

pub headed-requires : goal.headed-requires
headed-requires c = record { header_len_bound = omega arith; w_in_bounds = omega (arith, numbers_long _ c.args.out.now _ _ c.summary-summed.ensures.outcome (omega arith)); w_bound = omega arith; k_le_largest_count = lines_few _ c.args.out.now _ _ c.summary-summed.ensures.outcome (omega arith) }

pub returns : goal.returns
returns c = record { outcome = report_printed _ _ _ _ c.summary-summed.ensures.outcome (omega arith) _ _ c.headed.ensures; said = meant _ }
