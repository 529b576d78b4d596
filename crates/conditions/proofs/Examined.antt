-- Tests 4 to 9 as a chain: each step by what the code looks at, and all of them by the definitions.
-- Assumes nothing.
use mathlib.Core.Path.{◌≡◌, refl, ap, sym, ◌∙◌}
use mathlib.Core.Logic.{◌≢◌}
use mathlib.Core.Bool.{Bool, true, false, cond}
use mathlib.Core.List.{List, [], map}
use native.Mathlib.Omega.{arith}
use borrow.Author.Tests.{eqb-true, eqb-false}
use lib.Dec.{eqb}
use lib.ListN.{length}
use Rattle.std.specs.Prelude.{ℕ, Option, Some, None}
use Rattle.history.specs.declared.Op.{Op}
use Rattle.history.specs.declared.Answer.{Answer}
use Rattle.history.specs.declared.Code.{Code}
use Rattle.history.specs.Table.{op_at}
use Rattle.history.specs.Answer.{number, Test, test, refused_or, first_met, passed, lowest_row, or_test}
use Rattle.history.proofs.Refusals.{Coded}
use Rattle.history.proofs.Chains.{chained, met_chained}
use Rattle.writers.specs.Writers.{writer_of}
use Rattle.conditions.specs.declared.RowTest.TheVariants.{Kind, Span, Reopening, Twin, Orphan, Early}
use Rattle.conditions.specs.Tests.{condition, row_tests, shown_test, Listed}
use Rattle.conditions.proofs.Chain.{kind_same, span_same, again_same, twin_same, orphan_same, early_same}

coded : (h : List Op) → Coded (row_tests h)
unfolding row_tests
coded h = omega arith

-- a chain of code 0 met no condition
or_zero : (a : Answer) (x : Test) → number x.code ≢ 0 → (or_test a x).code ≡ 0 → (a.code ≡ 0) × (x.fault ≡ None)
unfolding or_test
or_zero a x c e = go (eqb a.code 0) refl x.fault refl e
  where
    go : (b : Bool) → eqb a.code 0 ≡ b → (f : Option ℕ) → x.fault ≡ f → (cond b (refused_or x.code f a) a).code ≡ 0 → (a.code ≡ 0) × (x.fault ≡ None)
    go true q (Some row) r z = absurd (c z)
    go true q None r z = (z, r)
    go false q f r z = absurd (eqb-false a.code 0 q z)

-- a test counts only where nothing was refused
or_same : (a : Answer) (c : Code) (f g : Option ℕ) → (a.code ≡ 0 → f ≡ g) → or_test a (test c f) ≡ or_test a (test c g)
unfolding or_test
or_same a c f g h = go (eqb a.code 0) refl
  where
    go : (b : Bool) → eqb a.code 0 ≡ b → cond b (refused_or c f a) a ≡ cond b (refused_or c g a) a
    go true q = ap (λ (x : Option ℕ). refused_or c x a) (h (eqb-true a.code 0 q))
    go false q = refl

module _ (t rows writer : List ℕ) (g : Listed t rows) (f : writer ≡ map (writer_of t rows) rows) where
  abbrev h : List Op
  h = map (op_at t) rows

  -- the chain up to the orphans
  abbrev pub upto : List ℕ → Answer
  upto a =
      or_test (or_test (or_test (or_test (or_test (passed (length rows)) (shown_test t rows a Kind)) (shown_test t rows a Span)) (shown_test t rows a Reopening)) (shown_test t rows writer Twin))
      (shown_test t rows writer Orphan)

  -- no condition was met up to the orphans, so that no write repeats a value
  once : (a : List ℕ) → (upto a).code ≡ 0 → lowest_row (condition Twin h) h ≡ None
  once a z =
      let orphan = or_zero _ (shown_test t rows writer Orphan) (omega arith) z in
      sym (twin_same t rows writer g f) ∙ (or_zero _ (shown_test t rows writer Twin) (omega arith) orphan.0).1

  pub rows_examined : (a : List ℕ) → or_test (upto a) (shown_test t rows writer Early) ≡ first_met (row_tests h) (passed (length rows))
  unfolding row_tests chained
  rows_examined a =
      or_same _ _ _ _ (λ z. early_same t rows writer g f (once a z))
      ∙ rw (kind_same t rows writer g f a, span_same t rows writer g f a, again_same t rows writer g f a, twin_same t rows writer g f, orphan_same t rows writer g f) refl
      ∙ sym (met_chained (row_tests h) (coded h) (passed (length rows)) refl)
