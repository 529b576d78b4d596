-- What is printed of a file: a text of its table, or the line of its refusal (document 01, "Files, program, C host").
-- Assumes nothing.
use Rattle.std.specs.Prelude.{ℕ, ◌%◌, ◌≡◌, ◌≤◌, List, length}
use Rattle.history.specs.Table.{largest_count, row_count}
use Rattle.records.specs.Records.{table_of}
use Rattle.files.specs.Files.{file_answer}
use Rattle.printing.specs.Texts.{loaded_text}

-- the text of the table where reading takes the file, else the line of the refusal
abbrev pub file_text : List ℕ → (List ℕ → List ℕ) → List ℕ
file_text bytes text = loaded_text (file_answer bytes) (text (table_of bytes))

-- the table of a file that reading takes
pub record TableOf (bytes table : List ℕ) : Type 0 where
  pub is : table ≡ table_of bytes
  pub whole : length table % 5 ≡ 0
  pub few : row_count table ≤ largest_count
