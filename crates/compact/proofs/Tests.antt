-- Operations with other row numbers meet the same tests.
-- Assumes nothing.
use Prim.Native.Nat.{ℕ, ◌/◌, ◌%◌, ◌≤◌}
use mathlib.Core.Path.{◌≡◌, refl, sym, ap, ◌∙◌}
use mathlib.Core.Bool.{Bool, true, false, not, cond, ◌||◌, ◌&&◌}
use mathlib.Core.List.{List, [], ◌∷◌, map, Memᴰ as In}
use borrow.Author.Tests.{eq-eqb, le-ltb}
use lib.ListN.{length-map}
use Rattle.std.specs.Prelude.{Option, Some, None}
use Rattle.lists.specs.Lists.{any, first}
use Rattle.lists.proofs.Tests.{both}
use Rattle.lists.proofs.Members.{any_ext}
use Rattle.history.specs.declared.Op.{Op}
use Rattle.history.specs.declared.Answer.{Answer}
use Rattle.history.specs.Table.{largest_count, is_opening, is_write, is_read, precedes, dictates}
use Rattle.history.specs.Answer.{number, Test, lowest_row, refused_or, first_met}
use Rattle.history.specs.Screen.{wrong_kind, stray_opening, wrong_span, opens_too, reopens, repeats, rewrites, dictated_by, unwritten, precedes_write, too_early, tests}
use Rattle.methods.specs.Mark.{mark_tests}
use Rattle.compact.specs.Renumbered.{renumbered, Keeps}

-- a condition is not met
abbrev gone : Option ℕ → Bool
gone (Some row) = false
gone None = true

-- tests of the same codes that are met alike
abbrev Same : List Test → List Test → Type 0
Same [] [] = Unit {0}
Same [] (y ∷ ys) = ⊥
Same (x ∷ xs) [] = ⊥
Same (x ∷ xs) (y ∷ ys) = ((x.code ≡ y.code) × (gone x.fault ≡ gone y.fault)) × Same xs ys

same_met : (xs ys : List Test) (a b : Answer) → Same xs ys → a.code ≡ b.code → (first_met xs a).code ≡ (first_met ys b).code
unfolding first_met
same_met [] [] a b s e = e
same_met (x ∷ xs) (y ∷ ys) a b s e = go x.fault y.fault s.0.1 (same_met xs ys a b s.1 e)
  where
    go : (p q : Option ℕ) → gone p ≡ gone q → (first_met xs a).code ≡ (first_met ys b).code →
        (refused_or x.code p (first_met xs a)).code ≡ (refused_or y.code q (first_met ys b)).code
    go (Some r) (Some t) m ih = ap number s.0.0
    go (Some r) None m ih = absurd (both refl (sym m))
    go None (Some t) m ih = absurd (both refl m)
    go None None m ih = ih
same_met [] (y ∷ ys) a b s e = elim s [ ]
same_met (x ∷ xs) [] a b s e = elim s [ ]

gone_first : {A : Type 0} (key : A → ℕ) (p : A → Bool) (l : List A) → gone (first key p l) ≡ not (any p l)
unfolding first any
gone_first key p [] = refl
gone_first key p (x ∷ l) = go (p x) (gone_first key p l)
  where
    go : (b : Bool) → gone (first key p l) ≡ not (any p l) → gone (cond b (Some (key x)) (first key p l)) ≡ not (b || any p l)
    go true ih = refl
    go false ih = ih

any_map : {A B : Type 0} (g : A → B) (p : B → Bool) (l : List A) → any p (map g l) ≡ any (λ x. p (g x)) l
unfolding any
any_map g p [] = refl
any_map g p (x ∷ l) = ap (λ r. p (g x) || r) (any_map g p l)

module _ (f : ℕ → ℕ) (h : List Op) (keeps : Keeps f h) where
  abbrev g : Op → Op
  g = renumbered f

  -- a test that answers alike of each operation
  some_same_lem : (p q : Op → Bool) → ((o : Op) → In o h → p (g o) ≡ q o) → any p (map g h) ≡ any q h
  some_same_lem p q e = any_map g p h ∙ any_ext (λ o. p (g o)) q h e

  lowest_same : (p q : Op → Bool) → ((o : Op) → In o h → p (g o) ≡ q o) → gone (lowest_row p (map g h)) ≡ gone (lowest_row q h)
  lowest_same p q e = gone_first (λ o. o.row) p (map g h) ∙ ap not (some_same_lem p q e) ∙ sym (gone_first (λ o. o.row) q h)

  kind_same : (o : Op) → In o h → wrong_kind (g o) ≡ wrong_kind o
  unfolding wrong_kind is_opening is_write is_read
  kind_same o m = refl

  span_same : (o : Op) → In o h → wrong_span (g o) ≡ wrong_span o
  unfolding wrong_span stray_opening is_opening
  span_same o m = refl

  again_same : (o : Op) → In o h → reopens (map g h) (g o) ≡ reopens h o
  unfolding reopens opens_too is_opening
  again_same o m = ap (λ b. is_opening o && b) (some_same_lem (opens_too (g o)) (opens_too o) (λ e n. rw (keeps e o n m) refl))

  twin_same : (o : Op) → In o h → rewrites (map g h) (g o) ≡ rewrites h o
  unfolding rewrites repeats is_opening is_write
  twin_same o m = ap (λ b. is_write o && b) (some_same_lem (repeats (g o)) (repeats o) (λ e n. rw (keeps e o n m) refl))

  orphan_same : (o : Op) → In o h → unwritten (map g h) (g o) ≡ unwritten h o
  unfolding unwritten dictated_by dictates is_opening is_write is_read
  orphan_same o m = ap (λ b. is_read o && not b) (some_same_lem (dictated_by (g o)) (dictated_by o) (λ w n. refl))

  early_same : (o : Op) → In o h → too_early (map g h) (g o) ≡ too_early h o
  unfolding too_early precedes_write dictates precedes is_opening is_write is_read
  early_same o m = ap (λ b. is_read o && b) (some_same_lem (precedes_write (g o)) (precedes_write o) (λ w n. refl))

  -- THE SAME REFUSAL, of tables of whole rows that are not too many
  pub same_refusal : (size other question : ℕ) (list : List ℕ) (a b : Answer) → size % 5 ≡ 0 → size / 5 ≤ largest_count → other % 5 ≡ 0 → other / 5 ≤ largest_count →
      a.code ≡ b.code → (first_met (mark_tests other (map g h) question list) a).code ≡ (first_met (mark_tests size h question list) b).code
  unfolding mark_tests tests
  same_refusal size other question list a b w c w' c' e = same_met (mark_tests other (map g h) question list) (mark_tests size h question list) a b same e
    where
      same : Same (mark_tests other (map g h) question list) (mark_tests size h question list)
      same = (
        (refl, rw (eq-eqb (size % 5) 0 w, eq-eqb (other % 5) 0 w') refl),
        (
          (refl, rw (le-ltb largest_count (size / 5) c, le-ltb largest_count (other / 5) c') refl),
          (
            (refl, refl),
            (
              (refl, lowest_same wrong_kind wrong_kind kind_same),
              (
                (refl, lowest_same wrong_span wrong_span span_same),
                (
                  (refl, lowest_same (reopens (map g h)) (reopens h) again_same),
                  (
                    (refl, lowest_same (rewrites (map g h)) (rewrites h) twin_same),
                    (
                      (refl, lowest_same (unwritten (map g h)) (unwritten h) orphan_same),
                      ((refl, lowest_same (too_early (map g h)) (too_early h) early_same), ((refl, rw (length-map h g) refl), tt)),
                    ),
                  ),
                ),
              ),
            ),
          ),
        ),
      )
