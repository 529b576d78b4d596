-- The zone list of the register is printed of the file's table.
use Rattle.std.proofs.Common.{rules}
use Rattle.zone_report.specs.Text.{zones_text}
use Rattle.zone_report.proofs.Lines.{meant}
use Rattle.zone_report.proofs.zones.Goals as goal

pub returns-clause-text : goal.returns-clause-text
returns-clause-text c = c.of_file.ensures (zones_text c.args.register) (λ t o r p table each. search rules)

pub returns-clause-shown : goal.returns-clause-shown
returns-clause-shown c = meant _ _
