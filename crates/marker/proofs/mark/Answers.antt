-- The outcome is the defined one; the other clauses follow from that (`promises`).
use Rattle.marker.proofs.Refusing.{promises}
use Rattle.marker.proofs.mark.Goals as goal

pub returns-then-table-le-FEW : goal.returns-then-table-le-FEW
returns-then-table-le-FEW c =
    let whole = promises _ _ _ _ _ _ c.call_sized.ensures in record { outcome = whole.0; demand = whole.1.0; alike = whole.1.1 }

pub returns-else-table-le-FEW : goal.returns-else-table-le-FEW
returns-else-table-le-FEW c =
    let whole = promises _ _ _ _ _ _ c.call_sized-else-table-le-FEW.ensures in record { outcome = whole.0; demand = whole.1.0; alike = whole.1.1 }
