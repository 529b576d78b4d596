use Prim.Native.Nat.{◌+◌}
use native.Mathlib.Omega.{arith}
use Rattle.records.specs.Records.{field}
use Rattle.records.proofs.Records.{least_length}
use Rattle.files.proofs.Walking.{reading_none, reading_long, reading_in, reading_stands, reading_more, reading_end}
use Rattle.files.proofs.read_rows.Goals as goal

pub loop-at-init : goal.loop-at-init
loop-at-init c = reading_none _ _

pub read_row-requires : goal.read_row-requires
read_row-requires c = record { at_in_bounds = (reading_stands _ _ c.requires.whole _ _ _ c.loop-at.invariant (omega arith)).whole; row_in_bounds = omega (arith, c.requires.bytes_in_bounds, reading_in _ _ c.requires.whole _ _ _ c.loop-at.invariant (omega arith), reading_long _ _ c.requires.whole _ _ _ c.loop-at.invariant) }

pub next-at-requires : goal.next-at-requires
next-at-requires c = omega (arith, (reading_stands _ _ c.requires.whole _ _ _ c.loop-at.invariant (omega arith)).whole, least_length (field c.args.bytes.now (c.loop-at.at + 2) 2))

pub overflow_add-i : goal.overflow_add-i
overflow_add-i c = omega (arith, reading_in _ _ c.requires.whole _ _ _ c.loop-at.invariant (omega arith), c.requires.whole.few)

pub loop-at-smaller : goal.loop-at-smaller
loop-at-smaller c = omega (arith, c.next-at.ensures)

pub loop-at-preserved : goal.loop-at-preserved
loop-at-preserved c = rw c.next-at.ensures (reading_more _ _ c.requires.whole _ _ _ c.loop-at.invariant (omega arith) _ c.read_row.ensures)

pub shape_of-table : goal.shape_of-table
shape_of-table c = reading_long _ _ c.requires.whole _ _ _ c.loop-at.invariant

pub returns : goal.returns
returns c = reading_end _ _ c.requires.whole _ _ _ c.loop-at.invariant (omega arith) c.requires.bytes_in_bounds
