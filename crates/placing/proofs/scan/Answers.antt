use Prim.Native.Nat.{◌+◌, ◌-◌}
use mathlib.Core.Path.{◌≡◌, refl, sym, ◌∙◌}
use native.Mathlib.Omega.{arith}
use Rattle.placing.specs.Scanned.{broke}
use Rattle.placing.proofs.Adding.{added_top}
use Rattle.placing.proofs.Passing.{scan_room, scan_none, scan_skip, scan_clash, scan_push, scan_stop, scan_bottom}
use Rattle.placing.proofs.scan.Goals as goal

pub loop-i-init : goal.loop-i-init
loop-i-init c = scan_none _ _ _ _ _ _ c.requires

pub returns-then-columns-i : goal.returns-then-columns-i
returns-then-columns-i c =
    let e : c.loop-i.i - 1 + 1 ≡ c.loop-i.i = omega arith in
    rw e (scan_stop _ _ _ _ _ _ _ (c.loop-i.i - 1) c.args.columns.now.sound.shape c.requires (omega arith) c.loop-i.invariant (omega arith))

pub returns-then-clash : goal.returns-then-clash
returns-then-clash c = broke refl (added_top _ _ c.loop-i.invariant.added) (scan_clash _ _ _ _ _ _ _ (c.loop-i.i - 1) (omega arith) c.loop-i.invariant (omega arith) (omega arith) (sym c.clash.ensures ∙ c.if-clash.true))

pub overflow_sub-at : goal.overflow_sub-at
overflow_sub-at c = omega (arith, scan_room _ _ _ _ _ _ _ (c.loop-i.i - 1) (omega arith) c.loop-i.invariant (omega arith) (omega arith) (omega arith))

pub bounds-order-at : goal.bounds-order-at
bounds-order-at c = omega (arith, c.loop-i.invariant.moved.high, c.loop-i.invariant.moved.cells, scan_room _ _ _ _ _ _ _ (c.loop-i.i - 1) (omega arith) c.loop-i.invariant (omega arith) (omega arith) (omega arith))

pub loop-i-preserved-then-placed-i-eq0 : goal.loop-i-preserved-then-placed-i-eq0
loop-i-preserved-then-placed-i-eq0 c = rw c.ask-asked.ensures (scan_push _ _ _ _ _ _ _ (c.loop-i.i - 1) (omega arith) c.loop-i.invariant (omega arith) (omega arith) (omega arith) (sym c.clash.ensures ∙ c.if-clash.false))

pub loop-i-preserved : goal.loop-i-preserved
loop-i-preserved c = scan_skip _ _ _ _ _ _ _ (c.loop-i.i - 1) (omega arith) c.loop-i.invariant (omega arith) c.if-placed-i-eq0.false

pub returns : goal.returns
returns c = let e : c.loop-i.i ≡ 0 = omega arith in scan_bottom _ _ _ _ _ _ _ c.requires refl (rw e at c.loop-i.invariant)
