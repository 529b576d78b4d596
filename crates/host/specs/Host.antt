-- The code that a C host gets (document 01, "Files, program, C host").
-- Assumes nothing.
use Rattle.std.specs.Prelude.{ℕ, ◌≡◌, ◌≢◌, cond, List, eqb}
use Rattle.history.specs.Answer.{number}
use Rattle.history.specs.declared.Code.TheVariants.{Fresh, ShortList}
use Rattle.records.specs.Records.{table_of}
use Rattle.files.specs.Files.{file_answer}
use Rattle.marks.specs.Marks.{answer_to, most_trials, Said}

-- the code of the file's refusal, else that of the marking call with 524,800 trials allowed ("Refusals of the file come before those of marking")
unfoldable pub host_code : List ℕ → ℕ → ℕ → ℕ
host_code bytes register question =
    cond (eqb (file_answer bytes).code (number Fresh)) (answer_to (table_of bytes) register question most_trials).code (file_answer bytes).code

-- the entry's three promises of a code
abbrev pub Given : List ℕ → ℕ → ℕ → ℕ → Type 0
Given bytes register question r =
    (r ≡ host_code bytes register question) × (((file_answer bytes).code ≡ 0 → Said (table_of bytes) register question r) × (r ≢ number ShortList))
