-- The word and the line are two parts of one text.
use mathlib.Core.List.{[], ◌∷◌}
use native.Mathlib.Omega.{arith}
use Rattle.text.specs.Decimal.{line}
use Rattle.lines.proofs.Bounds.{line_room}
use Rattle.lines.specs.Lines.{check_word, check_line}
use Rattle.lines.proofs.Parts.{put_then}
use Rattle.lines.proofs.put_check.Goals as goal

pub put_line-requires : goal.put_line-requires
put_line-requires c = line_room _ _ _ (omega (arith, c.requires, c.put_bytes-next.ensures.0))

pub returns : goal.returns
unfolding check_line
returns c = put_then check_word (line (c.args.answer.code ∷ c.args.answer.row ∷ [])) c.args.out.now c.args.at c.put_bytes-next.ensures c.put_line.ensures
