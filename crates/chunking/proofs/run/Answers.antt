use mathlib.Core.Path.{◌≡◌, ◌∙◌}
use native.Mathlib.Omega.{arith}
use lib.ListN.{length}
use Rattle.chunking.proofs.Running.{run_end, run_stop, run_on}
use Rattle.chunking.proofs.run.Goals as goal

pub returns-then-top-low : goal.returns-then-top-low
returns-then-top-low c =
    let q = rw (c.low.ensures, c.of-zone.ensures) at c.if-top-low.true in
    run_stop _ _ _ _ _ _ _ c.loop-i.invariant (omega arith) q

pub loop-i-preserved : goal.loop-i-preserved
loop-i-preserved c =
    let q = rw (c.low.ensures, c.of-zone.ensures) at c.if-top-low.false in
    run_on _ _ _ _ _ _ _ c.loop-i.invariant (omega arith) q _ (c.max-top.ensures ∙ rw (c.high.ensures, c.of-zone.ensures))

pub returns : goal.returns
returns c =
    let e : c.loop-i.i ≡ length c.args.list.now = omega (arith, c.requires.a_in_bounds) in
    rw e at (run_end _ _ _ _ _ _ _ c.loop-i.invariant (omega arith))
