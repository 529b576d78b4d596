-- The lines' refusal, else what the test of the room says; with code 0 the rows are copied.
use Prim.Native.Nat.{ℕ, ◌*◌}
use mathlib.Core.Path.{sym, ap, ◌∙◌}
use mathlib.Core.List.{List, ◌++◌}
use native.Mathlib.Omega.{arith}
use lib.ListN.{drop}
use lib.Seq.{length-take-le}
use Rattle.logs.proofs.Calls.{found_refused, found_short, found_within, found_long, answer_judged, answer_refused, answer_room, answer_copied}
use Rattle.logs.proofs.load_lines.Goals as goal

pub returns-then-found-ne0 : goal.returns-then-found-ne0
returns-then-found-ne0 c =
    found_refused
    c.args.bytes.now _ _ _ _ _ _
    c.lines-found.ensures
    c.args.table.now
    c.if-found-ne0.true

pub overflow_mul-needed : goal.overflow_mul-needed
overflow_mul-needed c =
    omega
    (arith, found_short c.args.bytes.now _ _ _ _ _ _ c.lines-found.ensures c.if-found-ne0.false)

pub returns-then-answer-ne0 : goal.returns-then-answer-ne0
returns-then-answer-ne0 c = (answer_judged c.args.bytes.now _ _ _ _ _ _ c.lines-found.ensures c.if-found-ne0.false c.args.table.now _ c.room_for-answer.ensures, answer_refused c.args.bytes.now _ _ _ _ _ _ c.lines-found.ensures c.if-found-ne0.false c.args.table.now _ c.room_for-answer.ensures c.if-answer-ne0.true)

pub slice_bounds-rows-end : goal.slice_bounds-rows-end
slice_bounds-rows-end c = found_within c.args.bytes.now _ _ _ _ _ _ c.lines-found.ensures c.if-found-ne0.false

pub slice_bounds-loaded-end : goal.slice_bounds-loaded-end
slice_bounds-loaded-end c = found_long c.args.bytes.now _ _ _ _ _ _ c.lines-found.ensures c.if-found-ne0.false

pub slice_bounds-copy_from_slice-end : goal.slice_bounds-copy_from_slice-end
slice_bounds-copy_from_slice-end c = answer_room c.args.bytes.now _ _ _ _ _ _ c.lines-found.ensures c.if-found-ne0.false c.args.table.now _ c.room_for-answer.ensures c.if-answer-ne0.false

pub slice_bounds-copy_from_slice-end-2 : goal.slice_bounds-copy_from_slice-end-2
slice_bounds-copy_from_slice-end-2 c = sym (length-take-le _ _ (answer_room c.args.bytes.now _ _ _ _ _ _ c.lines-found.ensures c.if-found-ne0.false c.args.table.now _ c.room_for-answer.ensures c.if-answer-ne0.false))

pub copy_from_slice-requires : goal.copy_from_slice-requires
copy_from_slice-requires c =
    length-take-le _ _ (answer_room c.args.bytes.now _ _ _ _ _ _ c.lines-found.ensures c.if-found-ne0.false c.args.table.now _ c.room_for-answer.ensures c.if-answer-ne0.false)
    ∙ found_long c.args.bytes.now _ _ _ _ _ _ c.lines-found.ensures c.if-found-ne0.false

pub returns : goal.returns
returns c =
    let t = c.lines-found.result.rows * 5 in
    (answer_judged c.args.bytes.now _ _ _ _ _ _ c.lines-found.ensures c.if-found-ne0.false c.args.table.now _ c.room_for-answer.ensures, answer_copied c.args.bytes.now _ _ _ _ _ _ c.lines-found.ensures c.if-found-ne0.false c.args.table.now _ c.room_for-answer.ensures c.if-answer-ne0.false _ (ap (λ (l : List ℕ). l ++ drop t c.args.table.now) c.copy_from_slice.ensures.after))
