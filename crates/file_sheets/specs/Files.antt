-- What the programs bench and exam print of a history file.
-- Assumes nothing.
use Rattle.std.specs.Prelude.{ℕ, List}
use Rattle.printing.specs.Files.{file_text}
use Rattle.sheet.specs.Sheet.{sheet_of, exam_of}

-- the sheet of a register of the file
unfoldable pub bench_of : List ℕ → ℕ → ℕ → List ℕ
bench_of bytes register allowance = file_text bytes (λ t. sheet_of t register allowance)

-- the same with the check of an order
unfoldable pub exam_file : List ℕ → ℕ → ℕ → List ℕ → List ℕ
exam_file bytes register k list = file_text bytes (λ t. exam_of t register k list)
