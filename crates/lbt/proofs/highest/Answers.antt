use Prim.Native.Nat.{◌-◌}
use mathlib.Core.Path.{sym, ◌∙◌}
use native.Mathlib.Omega.{arith}
use lib.ListN.{get_or}
use borrow.Author.Tests.{eq-eqb, ne_eqb}
use Rattle.positions.proofs.Latest.{latest_le}
use Rattle.placing.specs.States.{is_free}
use Rattle.lbt.proofs.Latest.{latest_out, latest_in}
use Rattle.lbt.proofs.highest.Goals as goal

pub returns-then-placed-i-eq0 : goal.returns-then-placed-i-eq0
returns-then-placed-i-eq0 c = sym (c.loop-i.invariant ∙ latest_in (is_free c.args.placed.now) c.loop-i.i (omega arith) (eq-eqb (get_or c.args.placed.now (c.loop-i.i - 1) 0) 0 (omega arith)))

pub loop-i-preserved : goal.loop-i-preserved
loop-i-preserved c = c.loop-i.invariant ∙ latest_out (is_free c.args.placed.now) c.loop-i.i (omega arith) (ne_eqb _ _ c.if-placed-i-eq0.false)

pub returns : goal.returns
returns c = omega (arith, c.loop-i.invariant, latest_le (is_free c.args.placed.now) c.loop-i.i)
