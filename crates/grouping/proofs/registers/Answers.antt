-- The registers of the rows, sorted, each once.
use Rattle.grouping.proofs.Columns.{registers_are}
use Rattle.grouping.proofs.registers.Goals as goal

pub returns : goal.returns
returns c = λ t g. registers_are _ _ _ _ _ _ g c.rows_at.ensures c.distinct.ensures
