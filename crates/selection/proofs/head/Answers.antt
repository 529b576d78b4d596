-- Each half is below 65,536 (`field_below`), so that no sum is too large.
use Prim.Native.Nat.{◌+◌}
use native.Mathlib.Omega.{arith}
use Rattle.records.specs.Records.{Bytes}
use Rattle.records.proofs.Numbers.{field_below}
use Rattle.selection.proofs.head.Goals as goal

pub overflow_mul-result : goal.overflow_mul-result
overflow_mul-result c =
    let known : Bytes c.args.bytes.now = λ i. omega (arith, c.type_inv.bytes i) in
    omega (arith, c.two-2.ensures, field_below c.args.bytes.now c.args.at 2 known)

pub overflow_add-result : goal.overflow_add-result
overflow_add-result c =
    let known : Bytes c.args.bytes.now = λ i. omega (arith, c.type_inv.bytes i) in
    omega (arith, c.two.ensures, c.two-2.ensures, field_below c.args.bytes.now c.args.at 2 known, field_below c.args.bytes.now (c.args.at + 2) 2 known)
