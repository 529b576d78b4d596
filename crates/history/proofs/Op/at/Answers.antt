use mathlib.Core.Path.{ap, ◌∙◌}
use Rattle.history.specs.declared.Row.{Row}
use Rattle.history.specs.Table.{operation, op_at}
use Rattle.history.proofs.Op.at.Goals as goal

pub returns : goal.returns
unfolding op_at
returns c = c.operation.ensures ∙ ap (λ (x : Row). operation x c.args.row) c.at.ensures
