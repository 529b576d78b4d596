use Prim.Native.Nat.{◌+◌, ◌-◌}
use mathlib.Core.Path.{◌≡◌, refl}
use mathlib.Core.List.{[], ◌∷◌}
use native.Mathlib.Omega.{arith}
use lib.ListN.{length}
use Rattle.std.proofs.lemmas.List.{set-get_or}
use Rattle.text.proofs.Putting.{put_none, put_more, put_all}
use Rattle.parsing.proofs.Lines.{end_within, leading_full, leading_done, leading_next, leading_not}
use Rattle.parsing.proofs.fill.Goals as goal

pub loop-n-init : goal.loop-n-init
loop-n-init c =
    let e : length c.args.list.now - 0 ≡ length c.args.list.now = omega arith in rw e (put_none _ _ _)

pub returns-then-text-at : goal.returns-then-text-at
returns-then-text-at c =
    rw set-get_or (put_all c.loop-n.invariant (leading_done c.args.text.now (length c.args.list.now) c.loop-n.n c.loop-n.at (omega arith) (omega arith)))

pub overflow_add-end : goal.overflow_add-end
overflow_add-end c = omega (arith, end_within c.args.text.now (length c.args.list.now) c.loop-n.n c.loop-n.at (omega arith) (omega arith) (c.loop-n.at + c.line_length.result) (omega (arith, c.line_length.ensures)))

pub slice_bounds-number_in-end : goal.slice_bounds-number_in-end
slice_bounds-number_in-end c = end_within c.args.text.now (length c.args.list.now) c.loop-n.n c.loop-n.at (omega arith) (omega arith) (c.loop-n.at + c.line_length.result) (omega (arith, c.line_length.ensures))

pub returns-in_default : goal.returns-in_default
returns-in_default c = rw set-get_or (put_all c.loop-n.invariant (leading_not c.args.text.now (length c.args.list.now) c.loop-n.n c.loop-n.at (omega arith) (omega arith) (c.loop-n.at + c.line_length.result) (omega (arith, c.line_length.ensures)) c.number_in.result c.number_in.ensures c.in_default.is))

pub loop-n-preserved : goal.loop-n-preserved
loop-n-preserved c = put_more c.loop-n.invariant (_ ∷ []) _ (leading_next c.args.text.now (length c.args.list.now) c.loop-n.n c.loop-n.at (omega arith) (omega arith) (c.loop-n.at + c.line_length.result) (omega (arith, c.line_length.ensures)) c.number_in.result c.number_in.ensures _ c.in-Some.is) _ _ refl refl

pub returns : goal.returns
returns c =
    let all : length c.loop-n.list ≡ c.loop-n.n = omega arith in
    rw all (put_all c.loop-n.invariant (leading_full c.args.text.now (length c.args.list.now) c.loop-n.n c.loop-n.at (omega arith)))
