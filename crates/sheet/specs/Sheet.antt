-- What the programs bench and exam print of a table's register: a heading, the answers to the three questions, the orders found, and a check of an order.
-- Assumes nothing.
use Rattle.std.specs.Prelude.{ℕ, ◌≡◌, ◌↔◌, cond, List, [], ◌∷◌, ◌++◌, eqb, take, replicate}
use Rattle.history.specs.Table.{largest_count}
use Rattle.methods.specs.Mark.{Outcome, mark}
use Rattle.meaning.specs.Demand.{Demand}
use Rattle.atomicity.specs.Check.{check, Accepted}
use Rattle.marks.specs.Marks.{most_trials}
use Rattle.text.specs.Decimal.{line}
use Rattle.lines.specs.Lines.{answers_of, order_word, check_line}

-- the heading line, in ASCII: the number of the question, and the four fields of an answer by their names
abbrev pub heading : List ℕ
heading =
    113 ∷ 117 ∷ 101 ∷ 115 ∷ 116 ∷ 105 ∷ 111 ∷ 110 ∷ 44  -- "question,"
    ∷ 99 ∷ 111 ∷ 100 ∷ 101 ∷ 44  -- "code,"
    ∷ 114 ∷ 111 ∷ 119 ∷ 44  -- "row,"
    ∷ 114 ∷ 111 ∷ 119 ∷ 115 ∷ 44  -- "rows,"
    ∷ 116 ∷ 114 ∷ 105 ∷ 97 ∷ 108 ∷ 115 ∷ 10  -- "trials"
    ∷ []

-- the marking call with a list of 1,024 places inside (01, "Files, program, C host")
unfoldable pub outcome_to : List ℕ → ℕ → ℕ → ℕ → Outcome
outcome_to t register question allowance = mark t register question allowance (replicate largest_count 0)

-- the line of an order, which only a fresh mark has: behind the question's number the rows at the front of the list
unfoldable pub order_line : ℕ → Outcome → List ℕ
order_line question o = cond (eqb o.answer.code 0) (order_word ++ line (question ∷ take o.answer.rows o.list)) []

-- the orders of questions 1, 2 and 3
unfoldable pub orders_of : Outcome → Outcome → Outcome → List ℕ
orders_of one two three = order_line 1 one ++ order_line 2 two ++ order_line 3 three

-- what is printed of three outcomes
unfoldable pub page_of : Outcome → Outcome → Outcome → List ℕ
page_of one two three = heading ++ answers_of one.answer two.answer three.answer ++ orders_of one two three

-- THE SHEET: what bench prints
unfoldable pub sheet_of : List ℕ → ℕ → ℕ → List ℕ
sheet_of t register allowance =
    page_of (outcome_to t register 1 allowance) (outcome_to t register 2 allowance) (outcome_to t register 3 allowance)

-- what its marks and orders say: demand 3 of each outcome
abbrev pub Shown : List ℕ → ℕ → ℕ → Type 0
Shown t register allowance =
    (question : ℕ) → Demand t register question allowance (replicate largest_count 0) (outcome_to t register question allowance)

-- THE EXAM: the sheet, with an allowance that is enough for every register, and the check of a given order
unfoldable pub exam_of : List ℕ → ℕ → ℕ → List ℕ → List ℕ
exam_of t register k list = sheet_of t register most_trials ++ check_line (check t register k list)

-- what its check says: code 0 exactly where the list is a valid k-atomic order of a register that passes the screening
abbrev pub Told : List ℕ → ℕ → ℕ → List ℕ → Type 0
Told t register k list = ((check t register k list).code ≡ 0) ↔ Accepted k t register list
