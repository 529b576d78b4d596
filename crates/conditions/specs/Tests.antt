-- What the code's names for tests stand for in the definitions of the history (document 01's table, 4 to 9; 02, W-207: 20), and what the code
-- looks at.
-- Assumes nothing.
use Rattle.std.specs.Prelude.{ℕ, ◌≤◌, ◌<◌, ◌≡◌, Bool, false, ◌&&◌, List, [], ◌∷◌, map, ltb, leb, length, get_or, Option}
use Rattle.lists.specs.Lists.{first, up_to}
use Rattle.history.specs.declared.Op.{Op}
use Rattle.lists.specs.Pairs.{Pairs}
use Rattle.history.specs.Table.{largest_count, op_at, is_opening, is_write, is_read, precedes}
use Rattle.history.specs.Answer.{Test, test, lowest_row}
use Rattle.history.specs.declared.Code.{Code}
use Rattle.history.specs.declared.Code.TheVariants.{BadKind, BadSpan, SecondOpening, TwinWrite, OrphanRead, EarlyRead}
use Rattle.history.specs.Screen.{wrong_kind, wrong_span, reopens, rewrites, unwritten, too_early}
use Rattle.writers.specs.Writers.{Within, seek, row_op}
use Rattle.conditions.specs.declared.RowTest.{RowTest}
use Rattle.conditions.specs.declared.RowTest.TheVariants.{Kind, Span, Reopening, Twin, Orphan, Early}

-- the code of each test
abbrev pub code_of : RowTest → Code
code_of Kind = BadKind
code_of Span = BadSpan
code_of Reopening = SecondOpening
code_of Twin = TwinWrite
code_of Orphan = OrphanRead
code_of Early = EarlyRead

-- what each test asks of an operation among those of its register
unfoldable pub condition : RowTest → List Op → Op → Bool
condition Kind h = wrong_kind
condition Span h = wrong_span
condition Reopening h = reopens h
condition Twin h = rewrites h
condition Orphan h = unwritten h
condition Early h = too_early h

-- a test, with the lowest row that meets its condition
abbrev pub row_test : List Op → RowTest → Test
row_test h x = test (code_of x) (lowest_row (condition x h) h)

-- tests 4 to 9 of a register's history, in their sequence; 20 comes after 5 and before 7 (02, W-207)
unfoldable pub row_tests : List Op → List Test
row_tests h = map (row_test h) (Kind ∷ Span ∷ Reopening ∷ Twin ∷ Orphan ∷ Early ∷ [])

-- the position of the first opening among the rows
unfoldable pub first_opening : List ℕ → List ℕ → ℕ
first_opening t rows = seek (λ x. is_opening (op_at t x)) rows

-- What the code looks at in the i-th row, with a column: the position of each row's write.
unfoldable pub shows : RowTest → List ℕ → List ℕ → List ℕ → ℕ → Bool
shows Kind t rows column i = wrong_kind (row_op t rows i)
shows Span t rows column i = wrong_span (row_op t rows i)
shows Reopening t rows column i = is_opening (row_op t rows i) && ltb (first_opening t rows) i
shows Twin t rows column i = is_write (row_op t rows i) && ltb (get_or column i 0) i
shows Orphan t rows column i = is_read (row_op t rows i) && leb (length rows) (get_or column i 0)
shows Early t rows column i =
    is_read (row_op t rows i) && (ltb (get_or column i 0) (length rows) && precedes (row_op t rows i) (row_op t rows (get_or column i 0)))

-- the lowest row at whose position a test holds
abbrev pub lowest_at : (ℕ → Bool) → List ℕ → Option ℕ
lowest_at p rows = first (λ i. get_or rows i 0) p (up_to (length rows))

-- a test as the code runs it, by what it looks at
abbrev pub shown_test : List ℕ → List ℕ → List ℕ → RowTest → Test
shown_test t rows column x = test (code_of x) (lowest_at (shows x t rows column) rows)

-- the i-th row shows no condition
pub record Quiet (t rows writer : List ℕ) (i : ℕ) : Type 0 where
  pub kind : (column : List ℕ) → shows Kind t rows column i ≡ false
  pub span : (column : List ℕ) → shows Span t rows column i ≡ false
  pub again : (column : List ℕ) → shows Reopening t rows column i ≡ false
  pub twin : shows Twin t rows writer i ≡ false
  pub orphan : shows Orphan t rows writer i ≡ false
  pub early : shows Early t rows writer i ≡ false

-- none of the rows does
abbrev pub AllQuiet : List ℕ → List ℕ → List ℕ → Type 0
AllQuiet t rows writer = (i : ℕ) → i < length rows → Quiet t rows writer i

-- rows of the table, rising, no more than a table has
pub record Listed (t rows : List ℕ) : Type 0 where
  pub within : Within t rows
  pub rising : Pairs (λ x y. x < y) rows
  pub few : length rows ≤ largest_count
