-- The numbers of the report, five a register (document 01, "Files, program, C host"), and the call that writes them.
-- Assumes nothing.
use Rattle.std.specs.Prelude.{ℕ, ◌+◌, ◌*◌, ◌%◌, ◌≡◌, cond, not, ltb, eqb, length, get_or}
use mathlib.Core.List.{List, [], ◌∷◌, flat_map}
use Rattle.history.specs.declared.Answer.{Answer}
use Rattle.history.specs.Table.{history, largest_count, row_count}
use Rattle.history.specs.Answer.{number, Test, test, if_so, first_met, passed}
use Rattle.history.specs.declared.Code.TheVariants.{Fresh, Ragged, Overfull, ShortList}
use Rattle.methods.specs.Mark.{written}
use Rattle.marks.specs.Marks.{answer_to, Said}
use Rattle.grouping.specs.Registers.{registers}

-- a register's number, its count of rows, the codes of questions 1 and 3, the row field of question 3 (01, "Files, program, C host")
unfoldable pub entry : List ℕ → ℕ → List ℕ
entry t register =
    let one = answer_to t register 1 0 in
    let two = answer_to t register 3 0 in
    register ∷ length (history t register) ∷ one.code ∷ two.code ∷ two.row ∷ []

unfoldable pub summary_of : List ℕ → List ℕ
summary_of t = flat_map (entry t) (registers t)

-- tests 1 and 2, and then 10 where the list has no room for five numbers a register (01's table)
unfoldable pub summary_tests : List ℕ → ℕ → List Test
summary_tests t room =
    test Ragged (if_so (not (eqb (length t % 5) 0)))
    ∷ test Overfull (if_so (ltb largest_count (row_count t)))
    ∷ test ShortList (if_so (ltb room (length (summary_of t))))
    ∷ []

-- the answer, whose rows field is the count of registers, and the list after the call; a refusal leaves it as it was
unfoldable pub summary_answer : List ℕ → List ℕ → Answer
summary_answer t list = first_met (summary_tests t (length list)) (passed (length (registers t)))

unfoldable pub summary_list : List ℕ → List ℕ → List ℕ
summary_list t list = cond (eqb (summary_answer t list).code (number Fresh)) (written (summary_of t) list) list

abbrev pub Summed : List ℕ → List ℕ → Answer → List ℕ → Type 0
Summed t list a after = (a ≡ summary_answer t list) × (after ≡ summary_list t list)

-- what the two marks of a register say
pub record Meant (t : List ℕ) (register : ℕ) : Type 0 where
  pub one : Said t register 1 (answer_to t register 1 0).code
  pub two : Said t register 3 (answer_to t register 3 0).code

-- what the marks of the entry at a place of the list say
pub record Tells (t list : List ℕ) (i : ℕ) : Type 0 where
  pub one : Said t (get_or list (i * 5) 0) 1 (get_or list (i * 5 + 2) 0)
  pub two : Said t (get_or list (i * 5) 0) 3 (get_or list (i * 5 + 3) 0)
