-- Three lines, one behind another.
use mathlib.Core.List.{◌++◌}
use native.Mathlib.Omega.{arith}
use Rattle.lines.specs.Lines.{answer_line, answers_of}
use Rattle.lines.proofs.Parts.{put_then}
use Rattle.lines.proofs.Bounds.{answer_bound}
use Rattle.lines.proofs.put_answers.Goals as goal

pub put_answer-second-requires : goal.put_answer-second-requires
put_answer-second-requires c = omega (arith, c.requires, c.put_answer-first.ensures.0, answer_bound 1 c.args.one)

pub put_answer-requires : goal.put_answer-requires
put_answer-requires c = omega (arith, c.requires, c.put_answer-first.ensures.0, c.put_answer-second.ensures.0, answer_bound 1 c.args.one, answer_bound 2 c.args.two)

pub returns : goal.returns
unfolding answers_of
returns c =
    let one = answer_line 1 c.args.one in
    let two = answer_line 2 c.args.two in
    let both = put_then one two c.args.out.now c.args.at c.put_answer-first.ensures c.put_answer-second.ensures in
    put_then (one ++ two) (answer_line 3 c.args.three) c.args.out.now c.args.at both c.put_answer.ensures
