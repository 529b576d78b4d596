-- The header and the lines are two parts of one text.
use mathlib.Core.List.{◌++◌}
use native.Mathlib.Omega.{arith}
use lib.ListN.{length-append}
use Rattle.text.specs.Decimal.{lines_of}
use Rattle.printing.proofs.Writing.{printed_short, printed, parts}
use Rattle.printing.proofs.Lines.{lines_small}
use Rattle.printing.proofs.headed.Goals as goal

pub overflow_add-length : goal.overflow_add-length
overflow_add-length c = omega (arith, c.lines_length.ensures, lines_small c.args.numbers.now c.args.w c.args.k c.requires.w_bound)

pub returns-then-out-length : goal.returns-then-out-length
returns-then-out-length c = printed_short (c.args.header.now ++ lines_of c.args.w c.args.k c.args.numbers.now) _ _ (omega (arith, c.lines_length.ensures, length-append c.args.header.now (lines_of c.args.w c.args.k c.args.numbers.now))) _ c.if-out-length.true c.at.ensures

pub returns : goal.returns
returns c = printed (c.args.header.now ++ lines_of c.args.w c.args.k c.args.numbers.now) _ _ (omega (arith, c.lines_length.ensures, length-append c.args.header.now (lines_of c.args.w c.args.k c.args.numbers.now))) _ _ (omega arith) c.passed.ensures (parts c.args.header.now (lines_of c.args.w c.args.k c.args.numbers.now) c.args.out.now _ _ _ c.put_bytes-next.ensures.0 c.put_bytes-next.ensures.1 c.put_lines.ensures.out_after)
