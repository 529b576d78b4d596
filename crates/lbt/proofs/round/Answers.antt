use Prim.Native.Nat.{◌+◌, ◌-◌}
use mathlib.Core.Path.{◌≡◌}
use native.Mathlib.Omega.{arith}
use Rattle.lbt.proofs.Turning.{turn_none, turn_end, turn_in, turn_marked, turn_skip, turn_whose, turn_stop, turn_spent, turn_lose, turn_win}
use Rattle.lbt.proofs.round.Goals as goal
use Rattle.lbt.proofs.round.Goals.{then-placed-w-eq0+else-columns-w+else-count-allowance+in_default, else-placed-w-eq0}

pub loop-i-init : goal.loop-i-init
loop-i-init c = turn_none c.args.columns.now.sound c.requires.holds c.requires.lowest c.requires.falling_value c.requires.skipped c.requires.trials_le_allowance

pub bounds-placed-w : goal.bounds-placed-w
bounds-placed-w c = turn_marked c.loop-i.invariant (omega arith)

pub offset_bounds-columns-w : goal.offset_bounds-columns-w
offset_bounds-columns-w c = omega (arith, turn_in c.loop-i.invariant (omega arith))

pub bounds-columns-w : goal.bounds-columns-w
bounds-columns-w c = omega (arith, turn_in c.loop-i.invariant (omega arith))

pub returns-then-columns-w : goal.returns-then-columns-w
returns-then-columns-w c =
    let e : c.args.last + 1 - 1 ≡ c.args.last = omega arith in
    turn_stop c.loop-i.invariant (omega arith) (omega arith) (rw e (omega arith))

pub returns-then-count-allowance : goal.returns-then-count-allowance
returns-then-count-allowance c =
    let e : c.args.last + 1 - 1 ≡ c.args.last = omega arith in
    turn_spent c.loop-i.invariant (omega arith) (omega arith) (rw e (omega arith)) (omega arith)

pub epoch-requires-clause-whose : goal.epoch-requires-clause-whose
epoch-requires-clause-whose c = (turn_whose c.loop-i.invariant (omega arith) (omega arith)).1

pub returns-in-Some : goal.returns-in-Some
returns-in-Some c =
    let e : c.args.last + 1 - 1 ≡ c.args.last = omega arith in
    turn_win c.loop-i.invariant (omega arith) (omega arith) (rw e (omega arith)) (λ e. omega arith) _ _ _ (omega arith) c.in-Some.ensures

pub returns-after-loop-i : goal.returns-after-loop-i
returns-after-loop-i c = turn_end c.loop-i.invariant (omega arith)

pub loop-i-preserved : goal.loop-i-preserved
loop-i-preserved c =
    elim c.if-placed-w-eq0.branch [
      | then-placed-w-eq0+else-columns-w+else-count-allowance+in_default w ↦
          let e : c.args.last + 1 - 1 ≡ c.args.last = omega arith in
          rw (w.placed-is, w.order-is, w.count-is)
          (turn_lose c.loop-i.invariant (omega arith) w.if-placed-w-eq0.true (rw e (omega arith)) w.if-count-allowance.false _ _ _ (omega arith) w.in_default.ensures)
      | else-placed-w-eq0 w ↦ rw (w.placed-is, w.order-is, w.count-is) (turn_skip c.loop-i.invariant (omega arith) w.if-placed-w-eq0.false)
    ]
