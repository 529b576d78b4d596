-- Two bytes hold a number below 65,536 (`field_below`), so that no sum is too large.
use native.Mathlib.Omega.{arith}
use Rattle.records.specs.Records.{Bytes}
use Rattle.records.proofs.Numbers.{field_below}
use Rattle.records.proofs.next.Goals as goal

pub overflow_add-result : goal.overflow_add-result
overflow_add-result c =
    let known : Bytes c.args.bytes.now = λ i. omega (arith, c.type_inv.bytes i) in
    omega (arith, c.two.ensures, field_below c.args.bytes.now c.args.at 2 known)

pub overflow_add-result-2 : goal.overflow_add-result-2
overflow_add-result-2 c =
    let known : Bytes c.args.bytes.now = λ i. omega (arith, c.type_inv.bytes i) in
    omega (arith, c.two.ensures, field_below c.args.bytes.now c.args.at 2 known)
