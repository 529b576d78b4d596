-- The buffer inside holds every sheet.
use Rattle.sheet.proofs.Showing.{shown}
use Prim.Native.Nat.{ℕ}
use mathlib.Core.Path.{sym}
use native.Mathlib.Omega.{arith}
use lib.ListN.{replicate, length-replicate}
use lib.Seq.{length-take-le}
use Rattle.sheet.specs.Sheet.{sheet_of}
use Rattle.sheet.specs.Pages.{room}
use Rattle.lines.proofs.Parts.{put_taken}
use Rattle.sheet.proofs.Parts.{same_printed}
use Rattle.sheet.proofs.Bounds.{sheet_bound}
use Rattle.sheet.proofs.sheet.Goals as goal

pub slice_bounds-whole-end : goal.slice_bounds-whole-end
slice_bounds-whole-end c = omega (arith, c.put_sheet-length.ensures.0, c.put_sheet-length.auto.out, sheet_bound c.args.table.now c.args.register c.args.allowance, length-replicate {A = ℕ} room 0)

pub slice_bounds-hand_out-end : goal.slice_bounds-hand_out-end
slice_bounds-hand_out-end c = sym (length-take-le _ _ (omega (arith, c.put_sheet-length.ensures.0, c.put_sheet-length.auto.out, sheet_bound c.args.table.now c.args.register c.args.allowance, length-replicate {A = ℕ} room 0)))

pub returns : goal.returns
returns c = record { text = same_printed _ _ _ _ _ (put_taken (sheet_of c.args.table.now c.args.register c.args.allowance) (replicate room 0) c.put_sheet-length.ensures (omega (arith, sheet_bound c.args.table.now c.args.register c.args.allowance, length-replicate {A = ℕ} room 0))) c.hand_out.ensures; shown = shown _ _ _ }
