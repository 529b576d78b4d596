use mathlib.Core.Path.{refl}
use Rattle.grouping.specs.Registers.{register_at}
use Rattle.grouping.proofs.register_at.Goals as goal

pub returns : goal.returns
unfolding register_at
returns c = refl
