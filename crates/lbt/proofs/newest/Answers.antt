use mathlib.Core.Path.{sym, ◌∙◌}
use native.Mathlib.Omega.{arith}
use Rattle.positions.proofs.Latest.{latest_le}
use Rattle.lbt.specs.Rounds.{open_write}
use Rattle.lbt.proofs.Latest.{new_placed, new_read, new_write}
use Rattle.lbt.proofs.newest.Goals as goal
use Rattle.lbt.proofs.newest.Goals.{else-placed-i-eq0-via-then-placed-i-eq0+else-columns-i, else-placed-i-eq0-via-else-placed-i-eq0}

pub returns-then-columns-i : goal.returns-then-columns-i
returns-then-columns-i c = sym (c.loop-i.invariant ∙ new_write c.args.columns.now.chains.writer.now c.args.placed.now c.loop-i.i (omega arith) (omega arith) (omega arith))

pub loop-i-preserved : goal.loop-i-preserved
loop-i-preserved c =
    c.loop-i.invariant
    ∙ elim c.else-placed-i-eq0.branch [
      | else-placed-i-eq0-via-then-placed-i-eq0+else-columns-i w ↦ new_read c.args.columns.now.chains.writer.now c.args.placed.now c.loop-i.i (omega arith) w.if-columns-i.false
      | else-placed-i-eq0-via-else-placed-i-eq0 w ↦ new_placed c.args.columns.now.chains.writer.now c.args.placed.now c.loop-i.i (omega arith) w.if-placed-i-eq0.false
    ]

pub returns : goal.returns
returns c = omega (arith, c.loop-i.invariant, latest_le (open_write c.args.columns.now.chains.writer.now c.args.placed.now) c.loop-i.i)
