use native.Mathlib.Omega.{arith}
use Rattle.columns.proofs.Chained.{chain_none, chain_write, chain_read}
use Rattle.columns.proofs.link.Goals as goal
use Rattle.columns.proofs.link.Goals.{then-v-at, else-v-at}

pub loop-at-init : goal.loop-at-init
loop-at-init c = chain_none _ _ _ c.requires.last_len c.requires.last_empty c.requires.prev_len

pub loop-at-preserved : goal.loop-at-preserved
loop-at-preserved c =
    elim c.if-v-at.branch [
      | then-v-at w ↦
          rw (w.last-is, w.prev-is)
          (chain_read _ _ _ _ (omega arith) c.loop-at.invariant w.if-v-at.true (c.requires.writers_inside c.loop-at.at (omega arith)))
      | else-v-at w ↦ rw (w.last-is, w.prev-is) (chain_write _ _ _ _ (omega arith) c.loop-at.invariant w.if-v-at.false)
    ]
