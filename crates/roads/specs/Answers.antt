-- A whole road in one call: four numbers a listed register (document 02, W-204), and the call that writes them.
-- Assumes nothing.
use Rattle.std.specs.Prelude.{ℕ, ◌*◌, ◌/◌, ◌%◌, ◌≤◌, ◌<◌, ◌≡◌, ◌≢◌, cond, not, ltb, eqb, length, get_or, take, drop}
use mathlib.Core.List.{List, [], ◌∷◌, flat_map}
use Rattle.history.specs.declared.Answer.{Answer}
use Rattle.history.specs.Table.{history, largest_count}
use Rattle.history.specs.Answer.{number, Test, test, if_so, first_met, passed, numbers}
use Rattle.history.specs.declared.Code.TheVariants.{Fresh, Ragged, Overfull, NoSuchQuestion, ShortList}
use Rattle.methods.specs.Mark.{no_question, written, mark}
use Rattle.marks.specs.Marks.{answer_to, Ample, Said}

-- the four fields of a register's own marking call, whose list is long enough, with the whole allowance (02, W-204)
unfoldable pub fields : List ℕ → ℕ → ℕ → ℕ → List ℕ
fields t question allowance register = numbers (answer_to t register question allowance)

-- those of each listed register, in the sequence of the list (02, W-204)
unfoldable pub answers_of : List ℕ → List ℕ → ℕ → ℕ → List ℕ
answers_of t registers question allowance = flat_map (fields t question allowance) registers

-- tests 1, 2 and 3, and then 10 where the list has fewer than four places a listed register (02, W-204): of the table's length, the count
-- of registers and the places
unfoldable pub answers_tests : ℕ → ℕ → ℕ → ℕ → List Test
answers_tests size count question room =
    test Ragged (if_so (not (eqb (size % 5) 0)))
    ∷ test Overfull (if_so (ltb largest_count (size / 5)))
    ∷ test NoSuchQuestion (if_so (no_question question))
    ∷ test ShortList (if_so (ltb room (count * 4)))
    ∷ []

-- the call's own answer is code 0 and zeros (02, W-204); and the list after the call, which a refusal leaves as it was
unfoldable pub answers_answer : List ℕ → List ℕ → ℕ → List ℕ → Answer
answers_answer t registers question list = first_met (answers_tests (length t) (length registers) question (length list)) (passed 0)

unfoldable pub answers_list : List ℕ → List ℕ → ℕ → ℕ → List ℕ → List ℕ
answers_list t registers question allowance list =
    cond (eqb (answers_answer t registers question list).code (number Fresh)) (written (answers_of t registers question allowance) list) list

-- What the four numbers at place i of a list are and say: the fields of the marking call with whatever list has a place for each of the
-- register's rows; with an ample allowance their code says what `Said` says; and it is never 10.
pub record Single (t : List ℕ) (register question allowance : ℕ) (list : List ℕ) (i : ℕ) : Type 0 where
  pub single : (l : List ℕ) → length (history t register) ≤ length l → take 4 (drop (i * 4) list) ≡ numbers (mark t register question allowance l).answer
  pub said : Ample question allowance → Said t register question (get_or list (i * 4) 0)
  pub room : get_or list (i * 4) 0 ≢ number ShortList

-- the same of each listed register at its place
abbrev pub Each : List ℕ → List ℕ → ℕ → ℕ → List ℕ → Type 0
Each t registers question allowance list = (i : ℕ) → i < length registers → Single t (get_or registers i 0) question allowance list i
