-- The lines of a sheet (document 01, "Files, program, C host"), and a part of a text put at a place of a buffer.
-- Assumes nothing.
use Rattle.std.specs.Prelude.{ℕ, ◌+◌, ◌≡◌, cond, List, [], ◌∷◌, ◌++◌, eqb, length, take}
use Rattle.std.proofs.lemmas.List.Edits.{sets}
use Rattle.history.specs.declared.Answer.{Answer}
use Rattle.history.specs.Answer.{numbers}
use Rattle.text.specs.Decimal.{line}

-- a text written from a place on, and the place behind it
abbrev pub Put : List ℕ → List ℕ → ℕ → ℕ → List ℕ → Type 0
Put text old at next new = (next ≡ at + length text) × (new ≡ sets old at text)

-- a line of the question's number and the four fields of its answer
unfoldable pub answer_line : ℕ → Answer → List ℕ
answer_line question a = line (question ∷ numbers a)

-- the lines of questions 1, 2 and 3
unfoldable pub answers_of : Answer → Answer → Answer → List ℕ
answers_of one two three = answer_line 1 one ++ answer_line 2 two ++ answer_line 3 three

-- the places of a page: one for the question, and 1,024 for the list
abbrev pub places : ℕ
places = 1025

-- "order," in ASCII, and the line of a fresh mark's order, from its page: the question and the rows behind it
abbrev pub order_word : List ℕ
order_word = 111 ∷ 114 ∷ 100 ∷ 101 ∷ 114 ∷ 44 ∷ []

unfoldable pub order_of : Answer → List ℕ → List ℕ
order_of a page = cond (eqb a.code 0) (order_word ++ line (take (a.rows + 1) page)) []

-- "check," in ASCII, and the line of a check of an order: its code and its row field
abbrev pub check_word : List ℕ
check_word = 99 ∷ 104 ∷ 101 ∷ 99 ∷ 107 ∷ 44 ∷ []

unfoldable pub check_line : Answer → List ℕ
check_line a = check_word ++ line (a.code ∷ a.row ∷ [])
