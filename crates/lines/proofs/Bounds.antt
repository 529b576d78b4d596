-- How long the lines of a sheet are, whatever the numbers.
-- Assumes nothing.
use Prim.Native.Nat.{ℕ, ◌+◌, ◌*◌, ◌≤◌}
use mathlib.Core.Bool.{Bool, true, false, cond}
use mathlib.Core.List.{List, [], ◌∷◌, ◌++◌}
use native.Mathlib.Omega.{arith}
use lib.Dec.{eqb}
use lib.ListN.{length, take, length-append, length-take}
use Rattle.history.specs.declared.Answer.{Answer}
use Rattle.history.specs.Answer.{numbers}
use Rattle.text.specs.Decimal.{line}
use Rattle.text.proofs.Joins.{line_length}
use Rattle.lines.specs.Lines.{answer_line, answers_of, places, order_word, order_of, check_word, check_line}

-- room for a line, by the count of its numbers
pub line_room : (l : List ℕ) (at size : ℕ) → at + (21 * length l + 1) ≤ size → at + length (line l) ≤ size
line_room l at size h = omega (arith, line_length l)

-- a line of an answer: five numbers
pub answer_bound : (question : ℕ) (a : Answer) → length (answer_line question a) ≤ 106
unfolding answer_line
answer_bound question a = omega (arith, line_length (question ∷ numbers a))

-- a line of a check: a word and two numbers
pub check_bound : (a : Answer) → length (check_line a) ≤ 49
unfolding check_line
check_bound a =
    omega (arith, length-append check_word (line (a.code ∷ a.row ∷ [])), line_length (a.code ∷ a.row ∷ []))

-- a line of an order: a word and at most the numbers of a page
pub order_of_bound : (a : Answer) (page : List ℕ) → length page ≤ places → length (order_of a page) ≤ 21532
unfolding order_of
order_of_bound a page h = go (eqb a.code 0)
  where
    go : (b : Bool) → length (cond b (order_word ++ line (take (a.rows + 1) page)) []) ≤ 21532
    go true =
        omega (arith, length-append order_word (line (take (a.rows + 1) page)), line_length (take (a.rows + 1) page), length-take (a.rows + 1) page, h)
    go false = omega arith

-- the lines of three answers
pub answers_bound : (one two three : Answer) → length (answers_of one two three) ≤ 318
unfolding answers_of
answers_bound one two three =
    omega (arith, length-append (answer_line 1 one ++ answer_line 2 two) (answer_line 3 three), length-append (answer_line 1 one) (answer_line 2 two), answer_bound 1 one, answer_bound 2 two, answer_bound 3 three)
