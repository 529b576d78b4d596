-- The programs' buffers hold the whole: a text, or the line of a refused file.
-- Assumes nothing.
use Prim.Native.Nat.{ℕ, ◌≤◌}
use mathlib.Core.List.{List}
use native.Mathlib.Omega.{arith}
use lib.ListN.{length}
use Rattle.printing.proofs.Filing.{text_bound}
use Rattle.sheet.specs.Sheet.{sheet_of, exam_of}
use Rattle.sheet.proofs.Bounds.{sheet_bound, exam_bound}
use Rattle.file_sheets.specs.Files.{bench_of, exam_file}

pub bench_bound : (bytes : List ℕ) (register allowance : ℕ) → length (bench_of bytes register allowance) ≤ 64944
unfolding bench_of
bench_bound bytes register allowance = text_bound bytes (λ t. sheet_of t register allowance) 64944 (omega arith) (λ t. sheet_bound t register allowance)

pub exam_file_bound : (bytes : List ℕ) (register k : ℕ) (list : List ℕ) → length (exam_file bytes register k list) ≤ 64993
unfolding exam_file
exam_file_bound bytes register k list = text_bound bytes (λ t. exam_of t register k list) 64993 (omega arith) (λ t. exam_bound t register k list)
