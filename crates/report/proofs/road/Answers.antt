-- The report of a file's table is not refused.
use mathlib.Core.Path.{◌≡◌}
use Rattle.std.proofs.Common.{rules}
use Rattle.summary.proofs.Telling.{meant}
use Rattle.report.specs.Report.{report_of, report_answer, report_after}
use Rattle.report.proofs.Reporting.{report_whole}
use Rattle.report.proofs.road.Goals as goal

pub returns-clause-text : goal.returns-clause-text
returns-clause-text c =
    c.of_file.ensures report_of (λ t o r p table each.
    let w : (r ≡ report_answer t.now o.now) × (p.now ≡ report_after t.now o.now) = search rules in
    report_whole _ _ table.whole table.few _ _ w)

pub returns-clause-said : goal.returns-clause-said
returns-clause-said c = meant _
