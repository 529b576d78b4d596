use Rattle.lists.proofs.Decide.{decide}
use Rattle.selection.specs.Selected.{plain}
use Rattle.selection.proofs.is_plain.Goals as goal

pub returns-then-head-eq-WRITE_HEAD : goal.returns-then-head-eq-WRITE_HEAD
unfolding plain
returns-then-head-eq-WRITE_HEAD c = search decide

pub returns-else-head-eq-WRITE_HEAD : goal.returns-else-head-eq-WRITE_HEAD
unfolding plain
returns-else-head-eq-WRITE_HEAD c = search decide
