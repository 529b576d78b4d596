-- A refused file's refusal is the answer; else the room decides, and the register's rows are copied.
use native.Mathlib.Omega.{arith}
use lib.ListN.{length}
use Rattle.selection.proofs.Selecting.{found_few, found_long, placed_stand, read_refused, read_short, read_fresh, room_enough}
use Rattle.selection.proofs.read.Goals as goal

pub returns-then-found-ne0 : goal.returns-then-found-ne0
returns-then-found-ne0 c = read_refused _ _ _ _ c.find-found.ensures.answer c.if-found-ne0.true

pub overflow_mul-m : goal.overflow_mul-m
overflow_mul-m c = omega (arith, found_few _ _ _ c.find-found.ensures.answer _ (c.find-found.ensures.places c.if-found-ne0.false))

pub returns-then-answer-ne0 : goal.returns-then-answer-ne0
returns-then-answer-ne0 c =
    let p = c.find-found.ensures.places c.if-found-ne0.false in
    read_short _ _ _ _ p _ (found_long _ _ _ c.find-found.ensures.answer _ p) _ c.room_for-answer.ensures c.if-answer-ne0.true

pub slice_bounds-picks-end : goal.slice_bounds-picks-end
slice_bounds-picks-end c = omega (arith, found_few _ _ _ c.find-found.ensures.answer _ (c.find-found.ensures.places c.if-found-ne0.false))

pub slice_bounds-copy-end : goal.slice_bounds-copy-end
slice_bounds-copy-end c = found_long _ _ _ c.find-found.ensures.answer _ (c.find-found.ensures.places c.if-found-ne0.false)

pub copy-requires : goal.copy-requires
copy-requires c =
    let p = c.find-found.ensures.places c.if-found-ne0.false in
    let room = room_enough c.find-found.result.rows (length c.args.table.now) _ c.room_for-answer.ensures c.if-answer-ne0.false in
    record { stands = placed_stand _ _ _ p; room = omega (arith, found_long _ _ _ c.find-found.ensures.answer _ p, room) }

pub returns : goal.returns
returns c =
    let p = c.find-found.ensures.places c.if-found-ne0.false in
    read_fresh _ _ _ _ p _ (found_long _ _ _ c.find-found.ensures.answer _ p) _ c.room_for-answer.ensures c.if-answer-ne0.false _ c.copy.ensures
