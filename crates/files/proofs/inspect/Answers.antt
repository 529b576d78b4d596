use Prim.Native.Nat.{◌+◌}
use mathlib.Core.Path.{◌∙◌}
use native.Mathlib.Omega.{arith}
use Rattle.records.specs.Records.{field}
use Rattle.records.proofs.Records.{least_length}
use Rattle.files.proofs.Walking.{inspect_none, inspect_hit, inspect_passes, inspect_more, inspect_end}
use Rattle.files.proofs.inspect.Goals as goal

pub loop-at-init : goal.loop-at-init
loop-at-init c = inspect_none _

pub inspect_record-found-requires : goal.inspect_record-found-requires
inspect_record-found-requires c = omega arith

pub returns-then-found-ne0 : goal.returns-then-found-ne0
returns-then-found-ne0 c = inspect_hit _ _ _ c.loop-at.invariant (omega arith) _ c.inspect_record-found.ensures c.if-found-ne0.true

pub next-at-requires : goal.next-at-requires
next-at-requires c =
    let p = inspect_passes _ _ _ c.loop-at.invariant (omega arith) _ c.inspect_record-found.ensures c.if-found-ne0.false in omega (arith, p.stands.whole, least_length (field c.args.bytes.now (c.loop-at.at + 2) 2))

pub overflow_add-i : goal.overflow_add-i
overflow_add-i c = omega (arith, c.loop-at.invariant.few)

pub loop-at-smaller : goal.loop-at-smaller
loop-at-smaller c =
    let p = inspect_passes _ _ _ c.loop-at.invariant (omega arith) _ c.inspect_record-found.ensures c.if-found-ne0.false in omega (arith, c.next-at.ensures)

pub loop-at-preserved : goal.loop-at-preserved
loop-at-preserved c = rw c.next-at.ensures (inspect_more _ _ _ c.loop-at.invariant (omega arith) _ c.inspect_record-found.ensures c.if-found-ne0.false)

pub returns : goal.returns
returns c = c.passed.ensures ∙ inspect_end _ _ _ c.loop-at.invariant (omega arith)
