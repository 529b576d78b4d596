-- The head's number has the length and the kind in it, since the kind is below 65,536 (`head_extent`).
use Prim.Native.Nat.{◌+◌}
use mathlib.Core.Path.{sym, ◌∙◌}
use native.Mathlib.Omega.{arith}
use Rattle.history.specs.Table.{operation}
use Rattle.records.specs.Records.{Bytes, field, record_from}
use Rattle.records.proofs.Numbers.{field_below}
use Rattle.selection.proofs.Picking.{head_extent, extent_short, extent_cut, extent_whole}
use Rattle.selection.proofs.extent.Goals as goal

pub returns-then-left-lt-SHORT_RECORD : goal.returns-then-left-lt-SHORT_RECORD
returns-then-left-lt-SHORT_RECORD c = sym (extent_short _ _ c.if-left-lt-SHORT_RECORD.true)

pub returns-in_err-size : goal.returns-in_err-size
unfolding record_from
returns-in_err-size c =
    let known : Bytes c.args.bytes.now = λ i. omega (arith, c.type_inv.bytes i) in
    let small = field_below c.args.bytes.now (c.args.at + 2) 2 known in
    let size = sym c.in_err-size.ensures ∙ head_extent (field c.args.bytes.now c.args.at 2) (operation (record_from c.args.bytes.now c.args.at) 0) _ c.head.ensures small in
    rw c.from_residual.ensures (sym (extent_whole c.args.bytes.now c.args.at 0 size (omega arith)))

pub returns-then-size-left : goal.returns-then-size-left
unfolding record_from
returns-then-size-left c =
    let known : Bytes c.args.bytes.now = λ i. omega (arith, c.type_inv.bytes i) in
    let small = field_below c.args.bytes.now (c.args.at + 2) 2 known in
    let size = c.in_ok-size.ensures.0 ∙ head_extent (field c.args.bytes.now c.args.at 2) (operation (record_from c.args.bytes.now c.args.at) 0) _ c.head.ensures small in
    (extent_whole c.args.bytes.now c.args.at _ size c.if-size-left.true, c.in_ok-size.ensures.1)

pub returns-else-size-left : goal.returns-else-size-left
unfolding record_from
returns-else-size-left c =
    let known : Bytes c.args.bytes.now = λ i. omega (arith, c.type_inv.bytes i) in
    let small = field_below c.args.bytes.now (c.args.at + 2) 2 known in
    let size = c.in_ok-size.ensures.0 ∙ head_extent (field c.args.bytes.now c.args.at 2) (operation (record_from c.args.bytes.now c.args.at) 0) _ c.head.ensures small in
    sym (extent_cut c.args.bytes.now c.args.at _ size c.if-size-left.false)
