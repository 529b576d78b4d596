use mathlib.Core.Path.{refl, ap, sym}
use mathlib.Core.List.{[], append-nil}
use native.Mathlib.Omega.{arith}
use lib.ListN.{length, length-append, drop, get_or}
use Rattle.std.proofs.lemmas.List.{take_rest}
use Rattle.text.specs.Decimal.{decimal, line}
use Rattle.text.proofs.Joins.{rest, line_none, line_some}
use Rattle.text.proofs.Putting.{put_none, put_more, put_end}
use Rattle.text.proofs.put_line.Goals as goal

pub bounds-out-at : goal.bounds-out-at
bounds-out-at c = omega (arith, c.requires, ap length (line_none c.args.numbers.now c.in_default.len_below))

pub returns-in_default : goal.returns-in_default
returns-in_default c =
    let e = line_none c.args.numbers.now c.in_default.len_below in (rw e, rw e)

pub put_number-next-requires : goal.put_number-next-requires
put_number-next-requires c = omega (arith, c.requires, ap length (line_some c.args.numbers.now (omega arith)), length-append (decimal (get_or c.args.numbers.now 0 0)) (rest (drop 1 c.args.numbers.now)))

pub put_rest-requires : goal.put_rest-requires
put_rest-requires c = rw (take_rest c.args.numbers.now 1) (omega (arith, c.requires, c.put_number-next.ensures.0, c.put_number-next.auto.out, ap length (line_some c.args.numbers.now (omega arith)), length-append (decimal (get_or c.args.numbers.now 0 0)) (rest (drop 1 c.args.numbers.now))))

pub returns : goal.returns
returns c =
    let first =
    put_more (put_none c.args.out.now c.args.at (line c.args.numbers.now)) (decimal (get_or c.args.numbers.now 0 0)) (rest (drop 1 c.args.numbers.now)) (line_some c.args.numbers.now (omega arith)) _ _ c.put_number-next.ensures.1 c.put_number-next.ensures.0
    in
    put_end (put_more first (rest (drop 1 c.args.numbers.now)) [] (sym (append-nil (rest (drop 1 c.args.numbers.now)))) _ _ (rw (take_rest c.args.numbers.now 1) at c.put_rest.ensures.1) (rw (take_rest c.args.numbers.now 1) at c.put_rest.ensures.0)) refl
