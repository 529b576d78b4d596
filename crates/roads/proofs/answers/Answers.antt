-- The answer and the list for each way through, and what follows from them (`promised`).
use native.Mathlib.Omega.{arith}
use Rattle.roads.proofs.Answering.{asked_for, left_ragged, left_overfull, left_unasked, left_short, left_passed, promised}
use Rattle.roads.proofs.answers.Goals as goal

pub returns-then-table-ne0 : goal.returns-then-table-ne0
returns-then-table-ne0 c =
    let whole = promised _ _ _ _ _ _ _ (left_ragged _ _ _ _ _ _ c.if-table-ne0.true c.at.ensures) in record { answer = whole.0; list = whole.1.0; said = whole.1.1 }

pub returns-then-table-gt-LARGEST_COUNT : goal.returns-then-table-gt-LARGEST_COUNT
returns-then-table-gt-LARGEST_COUNT c =
    let whole = promised _ _ _ _ _ _ _ (left_overfull _ _ _ _ _ (omega arith) _ c.if-table-gt-LARGEST_COUNT.true c.at-then-table-gt-LARGEST_COUNT.ensures) in record { answer = whole.0; list = whole.1.0; said = whole.1.1 }

pub returns-in_default : goal.returns-in_default
returns-in_default c =
    let whole = promised _ _ _ _ _ _ _ (left_unasked _ _ _ _ _ (omega arith) (omega arith) _ c.in_default.ensures c.at-in_default.ensures) in record { answer = whole.0; list = whole.1.0; said = whole.1.1 }

pub returns-then-list-registers : goal.returns-then-list-registers
returns-then-list-registers c =
    let whole = promised _ _ _ _ _ _ _ (left_short _ _ _ _ _ (omega arith) (omega arith) (asked_for _ _ c.in-Ok.ensures) _ (omega arith) c.at-then-list-registers.ensures) in record { answer = whole.0; list = whole.1.0; said = whole.1.1 }

pub returns : goal.returns
returns c =
    let whole = promised _ _ _ _ _ _ _ (left_passed _ _ _ _ _ (omega arith) (omega arith) (asked_for _ _ c.in-Ok.ensures) _ _ (omega arith) c.passed.ensures (rw c.in-Ok.ensures at c.answer_all.ensures)) in record { answer = whole.0; list = whole.1.0; said = whole.1.1 }
