use mathlib.Core.Path.{ap, ◌∙◌}
use native.Mathlib.Omega.{arith}
use Rattle.methods.specs.declared.Zone.{Zone}
use Rattle.methods.specs.Zones.{low}
use Rattle.zones.proofs.Lows.{list_none, list_skip, list_push}
use Rattle.zones.proofs.low_ends.Goals as goal
use Rattle.zones.proofs.low_ends.Goals.{then-v-i, else-v-i}

pub loop-i-init : goal.loop-i-init
loop-i-init c = list_none _ _ _ _ _ _ _ c.requires.late_len c.requires.low_room

pub loop-i-preserved : goal.loop-i-preserved
loop-i-preserved c =
    elim c.if-v-i.branch [
      | then-v-i w ↦ rw (w.late-is, w.low-is, w.list-is, w.m-is)
          (list_push _ _ _ _ _ _ _ _ _ _ _ c.loop-i.invariant (omega arith) (omega arith) w.if-v-i.true (omega arith) _ w.last_start.ensures _
          (w.low.ensures ∙ ap (λ (z : Zone). low z) w.of.ensures) _ w.if-v-i.true)
      | else-v-i w ↦ rw (w.late-is, w.low-is, w.list-is, w.m-is) (list_skip _ _ _ _ _ _ _ _ _ _ _ c.loop-i.invariant (omega arith) w.if-v-i.false)
    ]
