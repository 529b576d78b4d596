-- The answers of all registers of a table, a line for each (document 02, W-204).
-- Assumes nothing.
use Rattle.std.specs.Prelude.{ℕ, cond, length}
use mathlib.Core.List.{List, [], ◌∷◌, ◌++◌, flat_map}
use Rattle.history.specs.Answer.{refused}
use Rattle.history.specs.declared.Code.TheVariants.{NoSuchQuestion}
use Rattle.methods.specs.Mark.{no_question}
use Rattle.text.specs.Decimal.{lines_of}
use Rattle.printing.specs.Texts.{refused_line}
use Rattle.marks.specs.Marks.{answer_to, Ample, Said}
use Rattle.grouping.specs.Registers.{registers}
use Rattle.roads.specs.Answers.{fields}

-- the header line is exactly register,code,row,rows,trials
abbrev pub header : List ℕ
header =
    114 ∷ 101 ∷ 103 ∷ 105 ∷ 115 ∷ 116 ∷ 101 ∷ 114 ∷ 44
    ∷ 99 ∷ 111 ∷ 100 ∷ 101 ∷ 44
    ∷ 114 ∷ 111 ∷ 119 ∷ 44
    ∷ 114 ∷ 111 ∷ 119 ∷ 115 ∷ 44
    ∷ 116 ∷ 114 ∷ 105 ∷ 97 ∷ 108 ∷ 115 ∷ 10
    ∷ []

-- a register's number, and the four fields of its answer
unfoldable pub line_of : List ℕ → ℕ → ℕ → ℕ → List ℕ
line_of t question allowance register = register ∷ fields t question allowance register

-- those of each of a list of registers
abbrev pub numbers_of : List ℕ → ℕ → ℕ → List ℕ → List ℕ
numbers_of t question allowance registers = flat_map (line_of t question allowance) registers

-- the header, and a line for each register, ascending; or the line of the refusal where there is no such question
unfoldable pub answers_text : ℕ → ℕ → List ℕ → List ℕ
answers_text question allowance t =
    let lines = lines_of 5 (length (registers t)) (numbers_of t question allowance (registers t)) in
    cond (no_question question) (refused_line (refused NoSuchQuestion 0)) (header ++ lines)

-- what the code on each line says
abbrev pub Meant : List ℕ → ℕ → ℕ → Type 0
Meant t question allowance = (register : ℕ) → Ample question allowance → Said t register question (answer_to t register question allowance).code
