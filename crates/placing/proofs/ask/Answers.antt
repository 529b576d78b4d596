use Rattle.lists.proofs.Decide.{decide}
use Rattle.placing.specs.Rules.{ask}
use Rattle.placing.proofs.ask.Goals as goal

pub returns-then-v-w : goal.returns-then-v-w
unfolding ask
returns-then-v-w c = search decide

pub returns-else-v-w : goal.returns-else-v-w
unfolding ask
returns-else-v-w c = search decide
