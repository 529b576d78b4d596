-- Five stores, one behind the other (`stores_sets`).
use Prim.Native.Nat.{◌*◌}
use native.Mathlib.Nat.{add-zero}
use Rattle.records.specs.Records.{record_from, cells}
use Rattle.records.proofs.Storing.{stores_sets}
use Rattle.records.proofs.read_row.Goals as goal

pub returns : goal.returns
unfolding record_from
returns c =
    rw (c.stamp-2.ensures, c.stamp.ensures, c.eight-2.ensures, c.eight.ensures, c.two-kind.ensures)
    (stores_sets (cells (record_from c.args.bytes.now c.args.at)) c.args.table.now (c.args.row * 5) 0 (c.args.row * 5) (add-zero (c.args.row * 5)))
