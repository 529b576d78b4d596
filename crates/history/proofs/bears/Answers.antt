use mathlib.Core.Path.{ap, ◌∙◌}
use lib.Dec.{eqb}
use Rattle.history.specs.declared.Row.{Row}
use Rattle.history.specs.Table.{bears}
use Rattle.history.proofs.bears.Goals as goal

pub returns : goal.returns
unfolding bears
returns c = c.bears.ensures ∙ ap (λ (x : Row). eqb x.register c.args.register) c.at.ensures
