use Prim.Native.Nat.{◌+◌}
use mathlib.Core.Path.{sym, ap, ◌∙◌}
use native.Mathlib.Omega.{arith}
use Rattle.records.specs.Records.{Bytes}
use Rattle.records.proofs.Numbers.{field_below}
use Rattle.selection.specs.Selected.{plain}
use Rattle.selection.proofs.Picking.{plain_step}
use Rattle.selection.proofs.pick_plain.Goals as goal

pub past-pass-requires-clause-sound : goal.past-pass-requires-clause-sound
past-pass-requires-clause-sound c =
    let known : Bytes c.args.bytes.now = λ i. omega (arith, c.type_inv.bytes i) in
    let small = field_below c.args.bytes.now (c.loop-pass.pass.at + 2) 2 known in
    plain_step c.args.bytes.now c.loop-pass.pass.row c.loop-pass.pass.at (omega arith) small
    (ap plain (sym c.head.ensures) ∙ sym c.is_plain.ensures ∙ c.if-is_plain.true) (omega arith)
