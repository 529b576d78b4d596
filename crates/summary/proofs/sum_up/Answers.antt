-- The answer and the list for each way on; the registers stand at the front of a slice.
use native.Mathlib.Omega.{arith}
use Rattle.summary.proofs.Answering.{left_short, left_passed}
use Rattle.summary.proofs.sum_up.Goals as goal

pub returns-then-list-m : goal.returns-then-list-m
returns-then-list-m c = left_short _ _ c.requires.whole c.requires.few _ (c.registers-m.ensures _ c.group.ensures).0 _ c.if-list-m.true c.at.ensures

pub returns : goal.returns
returns c =
    let e = c.registers-m.ensures _ c.group.ensures in
    left_passed _ _ c.requires.whole c.requires.few _ e.0 _ _ _ (omega arith) c.passed.ensures e.1 c.put_entries.ensures
