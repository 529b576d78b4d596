-- An opening's record is its head; any other has its stamps behind it (`opening_stores`, `record_stores`).
use Prim.Native.Nat.{ℕ, ◌+◌}
use mathlib.Core.Path.{ap, ◌∙◌}
use mathlib.Core.List.{List}
use lib.Seq.{sets}
use Rattle.history.specs.Table.{row_at}
use Rattle.records.specs.Records.{stamp_bytes}
use Rattle.records.proofs.Storing.{opening_stores, record_stores}
use Rattle.records.proofs.write_row.Goals as goal

pub returns-then-kind-clause-bytes_after : goal.returns-then-kind-clause-bytes_after
returns-then-kind-clause-bytes_after c =
    c.put_head.ensures ∙ opening_stores c.args.bytes.now c.args.at (row_at c.args.table.now c.args.row) c.if-kind.true

pub returns-else-kind-clause-bytes_after : goal.returns-else-kind-clause-bytes_after
returns-else-kind-clause-bytes_after c =
    let r = row_at c.args.table.now c.args.row in
    c.put_stamps.ensures
    ∙ ap (λ (l : List ℕ). sets l (c.args.at + 20) (stamp_bytes r.start r.finish)) c.put_head.ensures
    ∙ record_stores c.args.bytes.now c.args.at r c.if-kind.false
