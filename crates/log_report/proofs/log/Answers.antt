use Rattle.summary.proofs.Telling.{meant}
use Rattle.log_report.proofs.log.Goals as goal
-- The log is refused, or its table is reported.
use native.Mathlib.Omega.{arith}
use Rattle.log_tables.proofs.Room.{table_whole, loaded_as, loaded_small, loaded_few, loaded_front, loaded_long, loaded_in}
use Rattle.printing.proofs.Filing.{loading_refused, loading_printed}
use Rattle.report.proofs.Reporting.{report_whole}

pub returns-then-loaded-ne0 : goal.returns-then-loaded-ne0
returns-then-loaded-ne0 c = record { text = loading_refused _ _ _ _ (loaded_as _ _ _ c.load-loaded.ensures.outcome.0 (omega arith)) _ _ c.if-loaded-ne0.true c.refusal.ensures; said = meant _ }

pub overflow_mul-n : goal.overflow_mul-n
overflow_mul-n c = omega (arith, loaded_small _ _ _ _ c.load-loaded.ensures.outcome (omega arith))

pub slice_bounds-table-end : goal.slice_bounds-table-end
slice_bounds-table-end c = loaded_in _ _ _ _ c.load-loaded.ensures.outcome (omega arith)

pub slice_bounds-report-end : goal.slice_bounds-report-end
slice_bounds-report-end c = loaded_long _ _ _ _ c.load-loaded.ensures.outcome (omega arith)

pub returns : goal.returns
returns c = record { text = loading_printed _ _ _ _ (loaded_as _ _ _ c.load-loaded.ensures.outcome.0 (omega arith)) _ _ (omega arith) (report_whole _ _ (table_whole c.args.bytes.now) (loaded_few _ _ _ _ c.load-loaded.ensures.outcome (omega arith)) _ _ (rw (loaded_front _ _ _ _ c.load-loaded.ensures.outcome (omega arith)) at c.report.ensures.outcome)); said = meant _ }
