-- Five numbers are one line.
use Rattle.lines.proofs.Bounds.{line_room}
use Rattle.lines.specs.Lines.{answer_line}
use Rattle.lines.proofs.put_answer.Goals as goal

pub put_line-requires : goal.put_line-requires
put_line-requires c = line_room _ _ _ c.requires

pub returns : goal.returns
unfolding answer_line
returns c = c.put_line.ensures
