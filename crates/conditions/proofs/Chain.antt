-- Tests 4 to 9 as the code runs them, by what it looks at, are those of the definitions.
-- Assumes nothing.
use Prim.Native.Nat.{ℕ, ◌<◌}
use mathlib.Core.Path.{◌≡◌, refl, sym, ◌∙◌}
use mathlib.Core.Bool.{false}
use mathlib.Core.List.{List, [], ◌∷◌, map}
use native.Mathlib.Omega.{arith}
use lib.ListN.{length, get_or}
use Rattle.std.specs.Prelude.{⊤, None, Result, Ok}
use Rattle.lists.specs.Lists.{up_to}
use Rattle.lists.proofs.Members.{none_nothing}
use Rattle.lists.proofs.Ranges.{in_below}
use Rattle.history.specs.declared.Op.{Op}
use Rattle.history.specs.declared.Answer.{Answer}
use Rattle.history.specs.Table.{op_at}
use Rattle.history.specs.Answer.{first_met, passed, lowest_row, Ran}
use Rattle.history.proofs.Refusals.{no_fault_answer, ran_none}
use Rattle.writers.specs.Writers.{writer_of}
use Rattle.conditions.specs.declared.RowTest.{RowTest}
use Rattle.conditions.specs.declared.RowTest.TheVariants.{Kind, Span, Reopening, Twin, Orphan, Early}
use Rattle.conditions.specs.Tests.{condition, row_test, row_tests, shows, lowest_at, shown_test, Quiet, Listed}
use Rattle.conditions.proofs.Shows.{lowest_is, again_is, twin_is, orphan_is, early_is}

module _ (t rows writer : List ℕ) (g : Listed t rows) (f : writer ≡ map (writer_of t rows) rows) where
  abbrev pub h : List Op
  h = map (op_at t) rows

  -- the test by what the code looks at, and by the definition
  abbrev pub Same : List ℕ → RowTest → Type 0
  Same column x = lowest_at (shows x t rows column) rows ≡ lowest_row (condition x h) h

  pub kind_same : (column : List ℕ) → Same column Kind
  unfolding shows condition
  kind_same column = lowest_is t rows (shows Kind t rows column) (condition Kind h) (λ i l. refl)

  pub span_same : (column : List ℕ) → Same column Span
  unfolding shows condition
  span_same column = lowest_is t rows (shows Span t rows column) (condition Span h) (λ i l. refl)

  pub again_same : (column : List ℕ) → Same column Reopening
  again_same column = lowest_is t rows (shows Reopening t rows column) (condition Reopening h) (again_is t rows g.rising column)

  pub twin_same : Same writer Twin
  twin_same = lowest_is t rows (shows Twin t rows writer) (condition Twin h) (twin_is t rows g.rising writer f)

  pub orphan_same : Same writer Orphan
  orphan_same = lowest_is t rows (shows Orphan t rows writer) (condition Orphan h) (orphan_is t rows g.rising writer f)

  pub early_same : lowest_row (condition Twin h) h ≡ None → Same writer Early
  unfolding condition
  early_same once = lowest_is t rows (shows Early t rows writer) (condition Early h) (early_is t rows g.rising writer f once)

  -- no write repeats a value where that test is run and not met
  once : Ran (shown_test t rows writer Twin ∷ []) (Ok tt) → lowest_row (condition Twin h) h ≡ None
  once o = sym twin_same ∙ ran_none (shown_test t rows writer Twin) (omega arith) o

  -- a test that is run by what the code looks at is run by its definition
  as_row : (x : RowTest) (column : List ℕ) → Same column x → (r : Result ⊤ Answer) → Ran (shown_test t rows column x ∷ []) r → Ran (row_test h x ∷ []) r
  as_row x column e r g = rw e at g

  module _ (r : Result ⊤ Answer) where
    pub ran_kind : Ran (shown_test t rows rows Kind ∷ []) r → Ran (row_test h Kind ∷ []) r
    ran_kind = as_row Kind rows (kind_same rows) r

    pub ran_span : Ran (shown_test t rows rows Span ∷ []) r → Ran (row_test h Span ∷ []) r
    ran_span = as_row Span rows (span_same rows) r

    pub ran_again : Ran (shown_test t rows rows Reopening ∷ []) r → Ran (row_test h Reopening ∷ []) r
    ran_again = as_row Reopening rows (again_same rows) r

    pub ran_twin : Ran (shown_test t rows writer Twin ∷ []) r → Ran (row_test h Twin ∷ []) r
    ran_twin = as_row Twin writer twin_same r

    pub ran_orphan : Ran (shown_test t rows writer Orphan ∷ []) r → Ran (row_test h Orphan ∷ []) r
    ran_orphan = as_row Orphan writer orphan_same r

    pub ran_early : Ran (shown_test t rows writer Twin ∷ []) (Ok tt) → Ran (shown_test t rows writer Early ∷ []) r → Ran (row_test h Early ∷ []) r
    ran_early o = as_row Early writer (early_same (once o)) r

  -- a test that no row shows has no fault
  none_shown : (x : RowTest) (column : List ℕ) → ((i : ℕ) → i < length rows → shows x t rows column i ≡ false) → Same column x → lowest_row (condition x h) h ≡ None
  none_shown x column e same = sym same ∙ none_nothing (λ i. get_or rows i 0) (shows x t rows column) (up_to (length rows)) (λ i m. e i (in_below (length rows) m))

  -- where no row shows a condition, the register passes
  pub rows_quiet : ((i : ℕ) → i < length rows → Quiet t rows writer i) → passed (length rows) ≡ first_met (row_tests h) (passed (length rows))
  unfolding row_tests
  rows_quiet q =
      let twins = none_shown Twin writer (λ i l. (q i l).twin) twin_same in
      sym
      (no_fault_answer (row_tests h) (passed (length rows)) (
        none_shown Kind [] (λ i l. (q i l).kind []) (kind_same []),
        (
          none_shown Span [] (λ i l. (q i l).span []) (span_same []),
          (
            none_shown Reopening [] (λ i l. (q i l).again []) (again_same []),
            (twins, (none_shown Orphan writer (λ i l. (q i l).orphan) orphan_same, (none_shown Early writer (λ i l. (q i l).early) (early_same twins), tt))),
          ),
        ),
      ))
