-- Positions by rising finish, those that have one finish by row: sorted by row and then, by a stable sort, by finish.
-- Assumes nothing.
use Prim.Native.Nat.{ℕ, ◌≤◌, ◌<◌}
use mathlib.Core.Path.{◌≡◌, refl, ap, ◌∙◌}
use mathlib.Core.Logic.{◌⊎◌, inl, inr}
use mathlib.Core.Bool.{Bool}
use mathlib.Core.List.{List, [], ◌∷◌}
use native.Mathlib.Omega.{arith}
use native.Mathlib.Nat.{eq-or-lt_of_le}
use borrow.Author.Tests.{leb-true, leb-false}
use lib.ListN.{get_or}
use Rattle.lists.specs.Sorts.{insert, sort}
use Rattle.lists.proofs.Tests.{Told, told_same, told_true, true_told, told_false, told_as, told_leb}
use Rattle.lists.proofs.Pairs.{pairs_map}
use Rattle.lists.proofs.Images.{sort_as}
use Rattle.lists.proofs.Merges.{Order, sort_rises}
use Rattle.lists.proofs.Groups.{sort_inserted}
use Rattle.sorting.specs.Keys.{rises}
use Rattle.sorting.proofs.Keys.{rises_order}
use Rattle.preparation.proofs.Ranks.{Lower, told_lower, lower_trans, lower_else}
use Rattle.ranking.specs.Ranked.{finishes_first}

module _ (rows finishes : List ℕ) where
  abbrev F : ℕ → ℕ
  F a = get_or finishes a 0

  abbrev R : ℕ → ℕ
  R a = get_or rows a 0

  abbrev le : ℕ → ℕ → Bool
  le = finishes_first rows finishes

  pub told_first : (a b : ℕ) → Told (Lower (F a) (F b) (R a ≤ R b)) (le a b)
  told_first a b = told_lower (F a) (F b) (told_leb (R a) (R b))

  pub finishes_order : Order le
  finishes_order =
      record {
        trans = λ x y z p q.
            true_told (told_first x z)
            (lower_trans (F x) (F y) (F z) (λ l m. omega arith) (told_true (told_first x y) p) (told_true (told_first y z) q));
        total = λ x y p. true_told (told_first y x) (lower_else (F x) (F y) (λ k. omega (arith, k)) (told_false (told_first x y) p));
      }

  -- what goes both before and behind another has its row
  same_row_lem : (a b : ℕ) → Lower (F a) (F b) (R a ≤ R b) → Lower (F b) (F a) (R b ≤ R a) → R a ≡ R b
  same_row_lem a b (inl l) (inl m) = absurd (omega arith)
  same_row_lem a b (inl l) (inr (e, m)) = absurd (omega arith)
  same_row_lem a b (inr (e, l)) (inl m) = absurd (omega arith)
  same_row_lem a b (inr (e, l)) (inr (d, m)) = omega arith

  -- SORTED BY ROW FIRST, it sorts alike
  sort_twice : (l : List ℕ) → sort le (sort (rises rows) l) ≡ sort le l
  unfolding sort
  sort_twice [] = refl
  sort_twice (x ∷ l) =
      sort_inserted le finishes_order (rises rows)
      (λ x y e p q. omega (arith, leb-false (R x) (R y) e, same_row_lem x y (told_true (told_first x y) p) (told_true (told_first y x) q)))
      x
      (sort (rises rows) l)
      ∙ ap (insert le x) (sort_twice l)

  -- where rows rise, the finish alone decides
  by_finish_lem : (a b : ℕ) → R a ≤ R b → rises finishes a b ≡ le a b
  by_finish_lem a b k = told_same (told_leb (F a) (F b)) (told_as into (λ m. out (eq-or-lt_of_le m)) (told_first a b))
    where
      into : Lower (F a) (F b) (R a ≤ R b) → F a ≤ F b
      into (inl m) = omega arith
      into (inr (e, m)) = omega arith

      out : (F a ≡ F b) ⊎ (F a < F b) → Lower (F a) (F b) (R a ≤ R b)
      out (inl e) = inr (e, k)
      out (inr m) = inl m

  -- BY ROW, THEN BY FINISH
  pub sort_both : (l : List ℕ) → sort (rises finishes) (sort (rises rows) l) ≡ sort le l
  sort_both l =
      sort_as (rises finishes) le (pairs_map (sort_rises (rises rows) (rises_order rows) l) (λ a b m n t. by_finish_lem a b (leb-true (R a) (R b) t)))
      ∙ sort_twice l
