-- The answer and the list for each way through.
use native.Mathlib.Omega.{arith}
use Rattle.summary.proofs.Telling.{promised}
use Rattle.summary.proofs.Answering.{left_ragged, left_overfull}
use Rattle.summary.proofs.summary.Goals as goal

pub returns-then-table-ne0 : goal.returns-then-table-ne0
returns-then-table-ne0 c =
    let whole = promised _ _ _ _ (left_ragged _ _ _ c.if-table-ne0.true c.at.ensures) in record { outcome = whole.0; said = whole.1 }

pub returns-then-table-gt-LARGEST_COUNT : goal.returns-then-table-gt-LARGEST_COUNT
returns-then-table-gt-LARGEST_COUNT c =
    let whole = promised _ _ _ _ (left_overfull _ _ (omega arith) _ c.if-table-gt-LARGEST_COUNT.true c.at-then-table-gt-LARGEST_COUNT.ensures) in
    record { outcome = whole.0; said = whole.1 }

pub returns : goal.returns
returns c =
    let whole = promised _ _ _ _ c.sum_up.ensures in record { outcome = whole.0; said = whole.1 }
