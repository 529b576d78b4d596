-- The order check (document 01, codes 13 to 15): a list of row numbers, held to the definitions of Order.antt position by position.
-- Assumes nothing.
use Rattle.std.specs.Prelude.{ℕ, ◌≢◌, Bool, cond, not, ◌&&◌, ◌||◌, List, [], ◌∷◌, ◌++◌, ltb, eqb, length, get_or, Option, Some, None}
use Rattle.lists.specs.Lists.{up_to, any, first}
use Rattle.history.specs.declared.Answer.{Answer}
use Rattle.history.specs.Table.{row_count, bears, rows_of, history, is_read, precedes, dictates}
use Rattle.history.specs.Answer.{Test, test, first_met, passed}
use Rattle.history.specs.declared.Code.TheVariants.{MisfitList, OutOfTime, TooFarBehind}
use Rattle.history.specs.Screen.{tests, Screened}
use Rattle.atomicity.specs.Order.{placed, writes_between, Atomic}

-- Position p against a position q before it (01's table, 13 to 15): the same row; a row that p's precedes; p's dictating write with fewer than
-- k writes between.
unfoldable pub same_row : List ℕ → ℕ → ℕ → Bool
same_row order p q = eqb (get_or order q 0) (get_or order p 0)

unfoldable pub precedes_at : List ℕ → List ℕ → ℕ → ℕ → Bool
precedes_at t order p q = precedes (placed t order p) (placed t order q)

unfoldable pub near_at : ℕ → List ℕ → List ℕ → ℕ → ℕ → Bool
near_at k t order p q = dictates (placed t order q) (placed t order p) && ltb (writes_between t order q p) k

-- row i exists and bears the register (01, "The row"), as a test
unfoldable pub is_row : List ℕ → ℕ → ℕ → Bool
is_row t register i = ltb i (row_count t) && bears t register i

-- 13: position p holds no row of the register, or repeats one
unfoldable pub misfits : List ℕ → ℕ → List ℕ → ℕ → Bool
misfits t register order p = not (is_row t register (get_or order p 0)) || any (same_row order p) (up_to p)

-- 14: the row at position p precedes one listed earlier
unfoldable pub late : List ℕ → List ℕ → ℕ → Bool
late t order p = any (precedes_at t order p) (up_to p)

-- 15: at position p stands a read that does not follow its write within k
unfoldable pub too_far : ℕ → List ℕ → List ℕ → ℕ → Bool
too_far k t order p = is_read (placed t order p) && not (any (near_at k t order p) (up_to p))

-- the lowest position that meets the condition (01's table, the row field of 13 to 15)
abbrev pub lowest_at : (ℕ → Bool) → List ℕ → Option ℕ
lowest_at f order = first (λ p. p) f (up_to (length order))

-- 13 again: where rows are missing, the row field is the list's length
unfoldable pub missing : List ℕ → ℕ → List ℕ → Option ℕ
missing t register order = cond (ltb (length order) (length (rows_of t register))) (Some (length order)) None

-- Tests 13, 14 and 15, a line each, in their sequence (01, "The answer and its numbers").
unfoldable pub order_tests : List ℕ → ℕ → ℕ → List ℕ → List Test
order_tests t register k order =
    test MisfitList (lowest_at (misfits t register order) order)
    ∷ test MisfitList (missing t register order)
    ∷ test OutOfTime (lowest_at (late t order) order)
    ∷ test TooFarBehind (lowest_at (too_far k t order) order)
    ∷ []

-- Tests 1 to 9, with a k of 0 as test 3, then 13 to 15 (01, "The answer and its numbers").
abbrev pub check_tests : List ℕ → ℕ → ℕ → List ℕ → List Test
check_tests t register k order = tests (length t) (history t register) (eqb k 0) ++ order_tests t register k order

-- The order check: its first condition met, or code 0 with the count of the register's rows (01, "What is built").
unfoldable pub check : List ℕ → ℕ → ℕ → List ℕ → Answer
check t register k order = first_met (check_tests t register k order) (passed (length (history t register)))

-- What code 0 of the order check says, no more and no less (01, "The row": a valid k-atomic order, for k of at least 1).
pub record Accepted (k : ℕ) (t : List ℕ) (register : ℕ) (order : List ℕ) : Type 0 where
  pub screened : Screened (length t) (history t register)
  pub asked : k ≢ 0
  pub atomic : Atomic k t register order
