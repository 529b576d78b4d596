-- The report of a table (document 01, "Files, program, C host").
-- Assumes nothing.
use Rattle.std.specs.Prelude.{ℕ, ◌%◌, cond, not, List, [], ◌∷◌, ◌++◌, ltb, eqb, length}
use Rattle.history.specs.declared.Answer.{Answer}
use Rattle.history.specs.Table.{largest_count, row_count}
use Rattle.history.specs.Answer.{number, Test, test, if_so, first_met, passed}
use Rattle.history.specs.declared.Code.TheVariants.{Fresh, Ragged, Overfull}
use Rattle.text.specs.Decimal.{lines_of}
use Rattle.grouping.specs.Registers.{registers}
use Rattle.summary.specs.Summary.{summary_of}
use Rattle.printing.specs.Texts.{text_answer, text_after}

-- the header line is exactly register,rows,one,two,row (01, "Files, program, C host")
abbrev pub header : List ℕ
header =
    114 ∷ 101 ∷ 103 ∷ 105 ∷ 115 ∷ 116 ∷ 101 ∷ 114 ∷ 44
    ∷ 114 ∷ 111 ∷ 119 ∷ 115 ∷ 44
    ∷ 111 ∷ 110 ∷ 101 ∷ 44
    ∷ 116 ∷ 119 ∷ 111 ∷ 44
    ∷ 114 ∷ 111 ∷ 119 ∷ 10
    ∷ []

-- the header, and a line for each register: its number, its count of rows, the codes of questions 1 and 3, the row field of question 3
unfoldable pub report_of : List ℕ → List ℕ
report_of t = header ++ lines_of 5 (length (registers t)) (summary_of t)

-- tests 1 and 2, and then 10 where the buffer has no room (01's table)
unfoldable pub report_tests : List ℕ → List Test
report_tests t = test Ragged (if_so (not (eqb (length t % 5) 0))) ∷ test Overfull (if_so (ltb largest_count (row_count t))) ∷ []

-- the answer, whose rows field is the text's length, and the buffer after the call; a refusal leaves it as it was
unfoldable pub report_answer : List ℕ → List ℕ → Answer
report_answer t out = first_met (report_tests t) (text_answer (report_of t) out)

unfoldable pub report_after : List ℕ → List ℕ → List ℕ
report_after t out = cond (eqb (first_met (report_tests t) (passed 0)).code (number Fresh)) (text_after (report_of t) out) out
