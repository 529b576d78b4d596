-- The sheet and the check are two parts of one text, which the buffer inside holds.
use Rattle.sheet.proofs.Showing.{shown, told}
use Prim.Native.Nat.{ℕ}
use mathlib.Core.Path.{sym}
use native.Mathlib.Omega.{arith}
use lib.ListN.{replicate, length-replicate}
use lib.Seq.{length-take-le}
use Rattle.marks.specs.Marks.{most_trials}
use Rattle.atomicity.specs.Check.{check}
use Rattle.lines.specs.Lines.{check_line}
use Rattle.sheet.specs.Sheet.{sheet_of, exam_of}
use Rattle.sheet.specs.Pages.{room}
use Rattle.lines.proofs.Parts.{put_then, put_taken}
use Rattle.sheet.proofs.Parts.{same_printed}
use Rattle.lines.proofs.Bounds.{check_bound}
use Rattle.sheet.proofs.Bounds.{sheet_bound, exam_bound}
use Rattle.sheet.proofs.checked.Goals as goal

pub put_check-length-requires : goal.put_check-length-requires
put_check-length-requires c = omega (arith, c.put_sheet-next.ensures.0, c.put_sheet-next.auto.out, sheet_bound c.args.table.now c.args.register most_trials, length-replicate {A = ℕ} room 0)

pub slice_bounds-whole-end : goal.slice_bounds-whole-end
slice_bounds-whole-end c = omega (arith, c.put_sheet-next.ensures.0, c.put_sheet-next.auto.out, sheet_bound c.args.table.now c.args.register most_trials, length-replicate {A = ℕ} room 0, c.put_check-length.ensures.0, c.put_check-length.auto.out, check_bound c.check-answer.result)

pub slice_bounds-hand_out-end : goal.slice_bounds-hand_out-end
slice_bounds-hand_out-end c = sym (length-take-le _ _ (omega (arith, c.put_sheet-next.ensures.0, c.put_sheet-next.auto.out, sheet_bound c.args.table.now c.args.register most_trials, length-replicate {A = ℕ} room 0, c.put_check-length.ensures.0, c.put_check-length.auto.out, check_bound c.check-answer.result)))

pub returns : goal.returns
unfolding exam_of
returns c =
    let whole =
    put_then (sheet_of c.args.table.now c.args.register most_trials) (check_line (check c.args.table.now c.args.register c.args.k c.args.list.now)) (replicate room 0) 0 c.put_sheet-next.ensures (rw c.check-answer.ensures.answer at c.put_check-length.ensures)
    in
    record { text = same_printed _ _ _ _ _ (put_taken (exam_of c.args.table.now c.args.register c.args.k c.args.list.now) (replicate room 0) whole (omega (arith, exam_bound c.args.table.now c.args.register c.args.k c.args.list.now, length-replicate {A = ℕ} room 0))) c.hand_out.ensures; shown = shown _ _ _; told = told _ _ _ _ }
