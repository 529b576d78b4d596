use Prim.Native.Nat.{◌+◌, ◌-◌}
use mathlib.Core.Path.{◌≡◌, sym, ◌∙◌}
use native.Mathlib.Omega.{arith}
use Rattle.parsing.proofs.Lines.{end_within, sound_full, sound_done, sound_next, sound_not}
use Rattle.parsing.proofs.sound.Goals as goal

pub loop-init : goal.loop-init
loop-init c =
    let e : c.args.most - 0 ≡ c.args.most = omega arith in rw e

pub returns-then-text-at : goal.returns-then-text-at
returns-then-text-at c = sym (c.loop.invariant ∙ sound_done c.args.text.now c.args.most c.loop.counter c.loop.at (omega arith) (omega arith))

pub overflow_add-end : goal.overflow_add-end
overflow_add-end c = omega (arith, end_within c.args.text.now c.args.most c.loop.counter c.loop.at (omega arith) (omega arith) (c.loop.at + c.line_length.result) (omega (arith, c.line_length.ensures)))

pub slice_bounds-number_in-end : goal.slice_bounds-number_in-end
slice_bounds-number_in-end c = end_within c.args.text.now c.args.most c.loop.counter c.loop.at (omega arith) (omega arith) (c.loop.at + c.line_length.result) (omega (arith, c.line_length.ensures))

pub returns-then-is_none : goal.returns-then-is_none
returns-then-is_none c = sym (c.loop.invariant ∙ sound_not c.args.text.now c.args.most c.loop.counter c.loop.at (omega arith) (omega arith) (c.loop.at + c.line_length.result) (omega (arith, c.line_length.ensures)) c.number_in.result c.number_in.ensures c.if-is_none.ensures)

pub loop-preserved : goal.loop-preserved
loop-preserved c = c.loop.invariant ∙ sound_next c.args.text.now c.args.most c.loop.counter c.loop.at (omega arith) (omega arith) (c.loop.at + c.line_length.result) (omega (arith, c.line_length.ensures)) c.number_in.result c.number_in.ensures c.if-is_none.ensures

pub returns : goal.returns
returns c = sym (c.loop.invariant ∙ sound_full c.args.text.now c.args.most c.loop.counter c.loop.at (omega arith))
