-- The answer and its numbers (document 01, "The answer and its numbers").
-- Assumes nothing.
use Rattle.std.specs.Prelude.{ℕ, Bool, cond, List, [], ◌∷◌, ◌++◌, eqb, ltb, length, drop, ◌≡◌, ⊤, Option, Some, None, Result, Ok, Err}
use Rattle.lists.specs.Lists.{first}
use Rattle.history.specs.declared.Op.{Op}
use Rattle.history.specs.declared.Answer.{Answer}
use Rattle.history.specs.declared.Code.{Code}
use Rattle.history.specs.declared.Code.TheVariants.{Fresh, Ragged, Overfull, NoSuchQuestion, BadKind, BadSpan, TwinWrite, OrphanRead, EarlyRead, ShortList, Spent, Stale, MisfitList, OutOfTime, TooFarBehind, CutRecord, StrangeRecord, HeaderFault, UnreadableCell, SecondOpening}

-- The codes are the enum `Code` of the code, by the words of 01 and, from 18 on, of 02, in the sequence of their numbers. The row field is 0 but
-- with these: overfull, in reading a file or a log, has the offset of the record or line; bad kind, bad span, second opening and twin write the
-- lowest such row, orphan read and early read the lowest such read's (bad span in writing clock text has 0: 02, W-205); misfit list a list position or
-- the list's length, out of time and too far behind a list position; cut record and strange record the record's offset; header fault the offset 0,
-- and unreadable cell the offset of the cell or of its line (02, W-201; W-207 for second opening).

-- their numbers (01's table, and 02); there is no 6 (02, W-203)
abbrev pub number : Code → ℕ
number Fresh = 0
number Ragged = 1
number Overfull = 2
number NoSuchQuestion = 3
number BadKind = 4
number BadSpan = 5
number TwinWrite = 7
number OrphanRead = 8
number EarlyRead = 9
number ShortList = 10
number Spent = 11
number Stale = 12
number MisfitList = 13
number OutOfTime = 14
number TooFarBehind = 15
number CutRecord = 16
number StrangeRecord = 17
number HeaderFault = 18
number UnreadableCell = 19
number SecondOpening = 20

-- An answer has four fields: with a code and a row field alone; and of a register that passes, with the count of its rows (01, "The answer
-- and its numbers": rows is 0 but with codes 0 and 12).
abbrev pub refused_by : ℕ → ℕ → Answer
refused_by code row = record { code = code; row = row; rows = 0; trials = 0 }

abbrev pub refused : Code → ℕ → Answer
refused c row = refused_by (number c) row

abbrev pub passed : ℕ → Answer
passed rows = record { code = number Fresh; row = 0; rows = rows; trials = 0 }

-- A test: the code that it gives, and the row field where its condition is met (01's table, "Condition, and the row field").
pub record Test : Type 0 where
  pub code : Code
  pub fault : Option ℕ

abbrev pub test : Code → Option ℕ → Test
test code fault = record { code = code; fault = fault }

-- a condition on the whole call, whose row field is 0; and one on each operation, whose row field is the lowest row that meets it
abbrev pub if_so : Bool → Option ℕ
if_so b = cond b (Some 0) None

abbrev pub lowest_row : (Op → Bool) → List Op → Option ℕ
lowest_row p h = first (λ o. o.row) p h

-- The first condition met, of tests in their sequence; where none is met, the answer a (01, "Marking tests 1 to 10 in that sequence").
abbrev pub refused_or : Code → Option ℕ → Answer → Answer
refused_or code (Some row) a = refused code row
refused_or code None a = a

unfoldable pub first_met : List Test → Answer → Answer
first_met [] a = a
first_met (x ∷ xs) a = let rest = first_met xs a in refused_or x.code x.fault rest

-- the sequence as a chain: a test counts only where nothing was refused before it (01, "Marking tests 1 to 10 in that sequence")
unfoldable pub or_test : Answer → Test → Answer
or_test a x = cond (eqb a.code 0) (refused_or x.code x.fault a) a

-- What a run of tests gives: nothing where no condition is met, else the refusal of the first that is; and the answer a behind it.
abbrev pub answer_else : Result ⊤ Answer → Answer → Answer
answer_else (Ok _) a = a
answer_else (Err refusal) a = refusal

-- r is what a run of the tests xs gives
pub record Ran (xs : List Test) (r : Result ⊤ Answer) : Type 0 where
  pub met : (a : Answer) → first_met xs a ≡ answer_else r a

-- An answer written: its four numbers at the front of a lent list, the rest untouched; or 10 and the list as it was (01's table, 10).
abbrev pub numbers : Answer → List ℕ
numbers a = a.code ∷ a.row ∷ a.rows ∷ a.trials ∷ []

unfoldable pub answer_after : List ℕ → Answer
answer_after list = cond (ltb (length list) 4) (refused ShortList 0) (passed 0)

unfoldable pub list_after : Answer → List ℕ → List ℕ
list_after a list = cond (ltb (length list) 4) list (numbers a ++ drop 4 list)
