-- A header's refusal, else that of the lines.
use Rattle.logs.proofs.Calls.{load_sound, load_fault, load_clauses}
use Rattle.logs.proofs.load.Goals as goal

pub returns-else-header : goal.returns-else-header
returns-else-header c =
    let e = load_fault c.args.bytes.now c.args.table.now _ c.read_header-header.ensures c.if-header.false _ c.at.ensures in
    let whole = load_clauses _ _ _ _ e in record { outcome = whole.0; shuffled = whole.1.0; stamps = whole.1.1.0; clocked = whole.1.1.1 }

pub returns-then-header : goal.returns-then-header
returns-then-header c =
    let e = load_sound c.args.bytes.now c.args.table.now _ c.read_header-header.ensures c.if-header.true _ _ c.load_lines.ensures.0 c.load_lines.ensures.1 in
    let whole = load_clauses _ _ _ _ e in record { outcome = whole.0; shuffled = whole.1.0; stamps = whole.1.1.0; clocked = whole.1.1.1 }
