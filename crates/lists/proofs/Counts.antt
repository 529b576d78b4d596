-- How many elements pass a test.
-- Assumes nothing.
use Prim.Native.Nat.{suc, ◌≤◌, ◌<◌}
use mathlib.Core.Path.{◌≡◌, refl, ap, ◌∙◌}
use mathlib.Core.Bool.{Bool, true, false, cond}
use mathlib.Core.List.Memᴰ.{head as here}
use mathlib.Core.List.Memᴰ.{tail as there}
use mathlib.Core.List.{List, [], ◌∷◌, map, Memᴰ as In}
use native.Mathlib.Omega.{arith}
use lib.ListN.{length}
use Rattle.lists.specs.Lists.{put, keep}
use Rattle.lists.specs.Sorts.{insert, sort}
use Rattle.lists.proofs.Members.{in_keep, keep_all}

module _ {A : Type 0} where
  put_mono : (c : Bool) (x : A) (a b : List A) → length a ≤ length b → length (put c x a) ≤ length (put c x b)
  unfolding put
  put_mono true x a b h = omega arith
  put_mono false x a b h = h

  put_mono_lt : (c : Bool) (x : A) (a b : List A) → length a < length b → length (put c x a) < length (put c x b)
  unfolding put
  put_mono_lt true x a b h = omega arith
  put_mono_lt false x a b h = h

  put_more : (c : Bool) (x : A) (a : List A) → length a ≤ length (put c x a)
  unfolding put
  put_more true x a = omega arith
  put_more false x a = omega arith

  pub keep_length : (p : A → Bool) (l : List A) → length (keep p l) ≤ length l
  unfolding keep put
  keep_length p [] = omega arith
  keep_length p (x ∷ l) = go (p x) (keep_length p l)
    where
      go : (b : Bool) → length (keep p l) ≤ length l → length (put b x (keep p l)) ≤ suc (length l)
      go true h = omega arith
      go false h = omega arith

  pub some_length : {y : A} {l : List A} → In y l → 0 < length l
  some_length (here e) = omega arith
  some_length (there m) = omega arith

  -- a list that is kept in part has no more elements that pass a second test q, and fewer when one such is dropped
  pub keep_le : (q p : A → Bool) (l : List A) → length (keep q (keep p l)) ≤ length (keep q l)
  unfolding keep put
  keep_le q p [] = omega arith
  keep_le q p (x ∷ l) = go (p x) (keep_le q p l)
    where
      go : (b : Bool) → length (keep q (keep p l)) ≤ length (keep q l) → length (keep q (put b x (keep p l))) ≤ length (put (q x) x (keep q l))
      go true h = put_mono (q x) x _ _ h
      go false h = omega (arith, put_more (q x) x (keep q l))

  pub keep_lt : (q p : A → Bool) (l : List A) {y : A} → In y l → q y ≡ true → p y ≡ false → length (keep q (keep p l)) < length (keep q l)
  unfolding keep put
  keep_lt q p (x ∷ l) (here e) hq hp = rw (← ap p e, ← ap q e, hq, hp) (omega (arith, keep_le q p l))
  keep_lt q p (x ∷ l) (there k) hq hp = go (p x) (keep_lt q p l k hq hp)
    where
      go : (b : Bool) → length (keep q (keep p l)) < length (keep q l) → length (keep q (put b x (keep p l))) < length (put (q x) x (keep q l))
      go true h = put_mono_lt (q x) x _ _ h
      go false h = omega (arith, put_more (q x) x (keep q l))
  keep_lt q p [] {y = y} x3 hq hp = elim x3 [ ]

  -- more elements pass a test that all of them pass and one more
  pub keep_more : (p q : A → Bool) (l : List A) → ((x : A) → p x ≡ true → q x ≡ true) → {y : A} → In y l → p y ≡ false → q y ≡ true
      → length (keep p l) < length (keep q l)
  keep_more p q l h m n s = rw (keep_all q (keep p l) (λ x k. h x (in_keep p l k).1)) at (keep_lt q p l m s n)

  -- an image has as many elements that pass
  pub count_map : {B : Type 0} (f : A → B) (p : B → Bool) (l : List A) → length (keep p (map f l)) ≡ length (keep (λ x. p (f x)) l)
  unfolding keep put
  count_map f p [] = refl
  count_map f p (x ∷ l) = go (p (f x)) (count_map f p l)
    where
      go : (b : Bool) → length (keep p (map f l)) ≡ length (keep (λ y. p (f y)) l) → length (put b (f x) (keep p (map f l))) ≡ length (put b x (keep (λ y. p (f y)) l))
      go true h = ap suc h
      go false h = h

  -- a sorted list has as many elements that pass
  module _ (le : A → A → Bool) (p : A → Bool) where
    put_two : (b c : Bool) (x y : A) (l : List A) → length (put b x (put c y l)) ≡ length (put c y (put b x l))
    unfolding put
    put_two true true x y l = refl
    put_two true false x y l = refl
    put_two false true x y l = refl
    put_two false false x y l = refl

    put_same : (b : Bool) (x : A) (k l : List A) → length k ≡ length l → length (put b x k) ≡ length (put b x l)
    unfolding put
    put_same true x k l e = ap suc e
    put_same false x k l e = e

    count_insert : (w : A) (l : List A) → length (keep p (insert le w l)) ≡ length (keep p (w ∷ l))
    unfolding insert keep
    count_insert w [] = refl
    count_insert w (x ∷ l) = go (le w x) (count_insert w l)
      where
        go : (b : Bool) → length (keep p (insert le w l)) ≡ length (put (p w) w (keep p l))
            → length (keep p (cond b (w ∷ (x ∷ l)) (x ∷ insert le w l))) ≡ length (put (p w) w (put (p x) x (keep p l)))
        go true ih = refl
        go false ih = put_same (p x) x _ _ ih ∙ put_two (p x) (p w) x w (keep p l)

    pub count_sort : (l : List A) → length (keep p (sort le l)) ≡ length (keep p l)
    unfolding sort keep
    count_sort [] = refl
    count_sort (x ∷ l) = count_insert x (sort le l) ∙ put_same (p x) x _ _ (count_sort l)
