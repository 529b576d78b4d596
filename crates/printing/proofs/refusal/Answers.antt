-- A word and two numbers.
use Rattle.printing.specs.Texts.{refused_line}
use Rattle.printing.proofs.refusal.Goals as goal

pub returns : goal.returns
unfolding refused_line
returns c = c.worded.ensures
