-- The word and the line are two parts of one text.
use native.Mathlib.Omega.{arith}
use lib.ListN.{length-append}
use Rattle.text.specs.Decimal.{line}
use Rattle.text.proofs.Joins.{line_length}
use Rattle.printing.proofs.Writing.{printed_short, printed, parts}
use Rattle.printing.proofs.worded.Goals as goal

pub overflow_add-length : goal.overflow_add-length
overflow_add-length c = omega (arith, c.line_length.ensures, line_length c.args.numbers.now)

pub returns-then-out-length : goal.returns-then-out-length
returns-then-out-length c = printed_short _ _ _ (omega (arith, c.line_length.ensures, length-append c.args.word.now (line c.args.numbers.now))) _ c.if-out-length.true c.at.ensures

pub returns : goal.returns
returns c = printed _ _ _ (omega (arith, c.line_length.ensures, length-append c.args.word.now (line c.args.numbers.now))) _ _ (omega arith) c.passed.ensures (parts c.args.word.now (line c.args.numbers.now) c.args.out.now _ _ _ c.put_bytes-next.ensures.0 c.put_bytes-next.ensures.1 c.put_line.ensures.1)
