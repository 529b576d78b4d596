-- The sequence of tests as a chain, each step of which keeps an earlier refusal, refuses what the first condition met refuses.
-- Assumes nothing.
use mathlib.Core.Path.{◌≡◌, refl, sym}
use mathlib.Core.Logic.{◌≢◌}
use mathlib.Core.List.{List, [], ◌∷◌, ◌++◌}
use borrow.Author.Tests.{eq-eqb, ne_eqb}
use Rattle.std.specs.Prelude.{ℕ, Option, Some, None}
use Rattle.history.specs.declared.Answer.{Answer}
use Rattle.history.specs.Answer.{refused, Test, refused_or, first_met, or_test}
use Rattle.history.proofs.Refusals.{Coded}

unfoldable pub chained : Answer → List Test → Answer
chained a [] = a
chained a (x ∷ xs) = chained (or_test a x) xs

pub chained_append : (a : Answer) (xs ys : List Test) → chained a (xs ++ ys) ≡ chained (chained a xs) ys
unfolding chained
chained_append a [] ys = refl
chained_append a (x ∷ xs) ys = chained_append (or_test a x) xs ys

pub chained_refused : (a : Answer) → a.code ≢ 0 → (xs : List Test) → chained a xs ≡ a
unfolding chained or_test
chained_refused a n [] = refl
chained_refused a n (x ∷ xs) = rw (ne_eqb a.code 0 n) (chained_refused a n xs)

pub met_chained : (xs : List Test) → Coded xs → (a : Answer) → a.code ≡ 0 → first_met xs a ≡ chained a xs
unfolding chained first_met or_test
met_chained [] h a z = refl
met_chained (x ∷ xs) h a z = rw (eq-eqb a.code 0 z) (go x.fault (met_chained xs h.1 a z))
  where
    go : (f : Option ℕ) → first_met xs a ≡ chained a xs → refused_or x.code f (first_met xs a) ≡ chained (refused_or x.code f a) xs
    go (Some row) ih = sym (chained_refused (refused x.code row) h.0 xs)
    go None ih = ih
