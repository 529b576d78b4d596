use native.Mathlib.Omega.{arith}
use Rattle.printing.proofs.Lines.{lined_more, lined_end, lined_room}
use Rattle.printing.proofs.put_lines.Goals as goal

pub put_line-place-requires : goal.put_line-place-requires
put_line-place-requires c = lined_room _ _ _ _ _ _ _ _ (omega arith) c.requires.numbers_in_bounds c.loop-i.invariant

pub loop-i-preserved : goal.loop-i-preserved
loop-i-preserved c = lined_more _ _ _ _ _ _ _ _ _ _ (omega arith) c.put_line-place.ensures c.loop-i.invariant

pub returns : goal.returns
returns c =
    let whole = lined_end _ _ _ _ _ _ _ _ (omega arith) c.loop-i.invariant in record { value = whole.0; out_after = whole.1 }
