use native.Mathlib.Omega.{arith}
use Rattle.files.proofs.Measuring.{writing_none, writing_room, writing_more, writing_end}
use Rattle.files.proofs.write_rows.Goals as goal

pub loop-i-init : goal.loop-i-init
loop-i-init c = writing_none _ _

pub write_row-at-requires : goal.write_row-at-requires
write_row-at-requires c = record { row_in_bounds = omega arith; row_in_bounds_2 = writing_room _ _ c.requires _ _ _ c.loop-i.invariant (omega arith) }

pub loop-i-preserved : goal.loop-i-preserved
loop-i-preserved c = writing_more _ _ c.requires _ _ _ c.loop-i.invariant (omega arith) _ _ (c.write_row-at.ensures.value, c.write_row-at.ensures.bytes_after)

pub returns : goal.returns
returns c = writing_end _ _ c.requires _ _ _ c.loop-i.invariant (omega arith)
