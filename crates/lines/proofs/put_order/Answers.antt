-- The question and the order's rows stand at the front of the page.
use Prim.Native.Nat.{◌+◌}
use mathlib.Core.Path.{refl}
use native.Mathlib.Omega.{arith}
use lib.ListN.{take, length-take}
use borrow.Author.Tests.{eq-eqb, ne_eqb}
use Rattle.text.specs.Decimal.{line}
use Rattle.text.proofs.Joins.{line_length}
use Rattle.lines.specs.Lines.{order_word}
use Rattle.lines.specs.Lines.{order_of}
use Rattle.lines.proofs.Parts.{put_then}
use Rattle.lines.proofs.put_order.Goals as goal

pub returns-then-answer-ne0 : goal.returns-then-answer-ne0
unfolding order_of
returns-then-answer-ne0 c = rw (ne_eqb c.args.answer.code 0 c.if-answer-ne0.true) (omega arith, refl)

pub put_line-requires : goal.put_line-requires
put_line-requires c =
    let few = c.requires.rows_lt_places c.if-answer-ne0.false in omega (arith, c.requires.at_in_bounds, c.requires.page_len, few, c.put_bytes-next.ensures.0, line_length (take (c.args.answer.rows + 1) c.args.page.now), length-take (c.args.answer.rows + 1) c.args.page.now)

pub returns : goal.returns
unfolding order_of
returns c = rw (eq-eqb c.args.answer.code 0 c.if-answer-ne0.false) (put_then order_word (line (take (c.args.answer.rows + 1) c.args.page.now)) c.args.out.now c.args.at c.put_bytes-next.ensures c.put_line.ensures)
