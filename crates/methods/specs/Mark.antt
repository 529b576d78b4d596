-- The marking call (document 01, "The answer and its numbers"): tests 1 to 10, then one of the three methods over the prepared history.
-- Assumes nothing.
use Rattle.std.specs.Prelude.{ℕ, Bool, cond, not, ◌||◌, List, [], ◌∷◌, ◌++◌, map, ltb, eqb, length, drop}
use Rattle.history.specs.declared.Op.{Op}
use Rattle.history.specs.declared.Answer.{Answer}
use Rattle.history.specs.Table.{history}
use Rattle.history.specs.Answer.{number, Test, test, if_so, first_met, passed}
use Rattle.history.specs.declared.Code.{Code}
use Rattle.history.specs.declared.Code.TheVariants.{Fresh, ShortList, Spent, Stale}
use Rattle.history.specs.Screen.{tests}
use Rattle.methods.specs.Prepared.{prepared}
use Rattle.methods.specs.Zones.{Decision, none, order, zones}
use Rattle.methods.specs.Lbt.{Walk, trials, decided, lbt}
use Rattle.methods.specs.Fzf.{fzf}

-- What a call leaves: the answer, and the lent list (01, "The answer and its numbers").
pub record Outcome : Type 0 where
  pub answer : Answer
  pub list : List ℕ

-- Questions 1 (zones), 2 (LBT) and 3 (FZF), and the k that each asks for (01, code 3).
abbrev pub no_question : ℕ → Bool
no_question question = not (eqb question 1 || eqb question 2 || eqb question 3)

abbrev pub k_of : ℕ → ℕ
k_of question = cond (eqb question 1) 1 2

-- What a method gives: its decision and its trials, which only LBT has (01, "The answer and its numbers").
pub record Result : Type 0 where
  pub decision : Decision
  pub trials : ℕ

abbrev pub untried : Decision → Result
untried d = record { decision = d; trials = 0 }

abbrev pub walked : Walk → Result
walked w = record { decision = decided w; trials = trials w }

-- the method of the question, over a prepared history (01, "Doubled stamps")
unfoldable pub method : ℕ → List Op → Result
method question H =
    let one = untried (zones H) in
    let two = walked (lbt H) in
    let three = untried (fzf H) in
    cond (eqb question 1) one (cond (eqb question 2) two three)

-- an order by its row numbers (01, "The row"), and the lent list with it at the front, the rest untouched (01, code 0)
abbrev pub row_numbers : List Op → List ℕ
row_numbers o = map (λ x. x.row) o

abbrev pub written : List ℕ → List ℕ → List ℕ
written numbers list = numbers ++ drop (length numbers) list

-- The answers that are no refusals, whose row field is 0: code, rows, trials (01, "The answer and its numbers").
abbrev pub answered : Code → ℕ → ℕ → Answer
answered code rows trials = record { code = number code; row = 0; rows = rows; trials = trials }

-- fresh, with the order written, or stale (01, codes 0 and 12)
unfoldable pub marked : ℕ → ℕ → List ℕ → Decision → Outcome
marked rows trials list none = record { answer = answered Stale rows trials; list = list }
marked rows trials list (order o) = record { answer = answered Fresh rows trials; list = written (row_numbers o) list }

-- spent exactly where the walk has more trials than allowed (01, code 11; "LBT")
unfoldable pub judged : ℕ → ℕ → List ℕ → Result → Outcome
judged rows allowance list r =
    cond (ltb allowance r.trials) (record { answer = answered Spent 0 allowance; list = list }) (marked rows r.trials list r.decision)

-- Tests 1 to 10, in their sequence (01, "The answer and its numbers").
unfoldable pub mark_tests : ℕ → List Op → ℕ → List ℕ → List Test
mark_tests size h question list = tests size h (no_question question) ++ test ShortList (if_so (ltb (length list) (length h))) ∷ []

-- The outcome, from the table's length and the register's operations alone (01, "The row"). A refusal leaves the list as it was.
unfoldable pub mark_of : ℕ → List Op → ℕ → ℕ → List ℕ → Outcome
mark_of size h question allowance list =
    let met = first_met (mark_tests size h question list) (passed (length h)) in
    let outcome = judged (length h) allowance list (method question (prepared h)) in
    cond (eqb met.code (number Fresh)) outcome (record { answer = met; list = list })

-- the marking call (01, "What is built")
unfoldable pub mark : List ℕ → ℕ → ℕ → ℕ → List ℕ → Outcome
mark t register question allowance list = mark_of (length t) (history t register) question allowance list
