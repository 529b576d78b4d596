use Prim.Native.Nat.{◌+◌}
use mathlib.Core.Path.{◌≡◌, refl, sym, ap, ◌∙◌}
use native.Mathlib.Omega.{arith}
use lib.ListN.{length}
use Rattle.cells.specs.Steps.{end_of}
use Rattle.cells.proofs.Reading.{cell_none, cell_stop, cell_on}
use Rattle.cells.proofs.cell_end.Goals as goal

pub loop-end-init : goal.loop-end-init
loop-end-init c = refl

pub bounds-bytes-end : goal.bounds-bytes-end
bounds-bytes-end c = omega arith

pub returns-then-stops : goal.returns-then-stops
returns-then-stops c =
    sym
    (c.loop-end.invariant ∙ (let e : end_of c.args.bytes.now c.loop-end.end ≡ c.loop-end.end = omega (arith, ap length (cell_stop c.args.bytes.now c.loop-end.end (omega arith) (sym c.stops.ensures ∙ c.if-stops.true))) in e))

pub overflow_add-end : goal.overflow_add-end
overflow_add-end c = omega arith

pub loop-end-smaller : goal.loop-end-smaller
loop-end-smaller c = omega arith

pub loop-end-preserved : goal.loop-end-preserved
loop-end-preserved c =
    c.loop-end.invariant
    ∙ (let e : end_of c.args.bytes.now c.loop-end.end ≡ end_of c.args.bytes.now (c.loop-end.end + 1) = omega (arith, ap length (cell_on c.args.bytes.now c.loop-end.end (omega arith) (sym c.stops.ensures ∙ c.if-stops.false))) in e)

pub returns : goal.returns
returns c =
    sym
    (c.loop-end.invariant ∙ (let e : end_of c.args.bytes.now c.loop-end.end ≡ c.loop-end.end = omega (arith, ap length (cell_none c.args.bytes.now c.loop-end.end (omega arith))) in e))
