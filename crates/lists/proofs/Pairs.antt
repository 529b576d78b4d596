-- The laws of a relation between each element of a list and every later one.
-- Assumes nothing.
use mathlib.Core.Path.{refl, sym, ◌∙◌}
use mathlib.Core.Bool.{Bool, true, false}
use mathlib.Core.Logic.{◌⊎◌, inl, inr, ◌≢◌}
use mathlib.Core.List.Memᴰ
use mathlib.Core.List.Memᴰ.{head as here}
use mathlib.Core.List.Memᴰ.{tail as there}
use mathlib.Core.List.{List, [], ◌∷◌, ◌++◌, map, Memᴰ as In}
use Rattle.lists.specs.Lists.{put, keep}
use Rattle.lists.specs.Pairs.{Pairs, nil, cons}
use Rattle.lists.proofs.Members.{in_keep}
use Rattle.lists.proofs.Maps.{in_map, map_in}

module _ {A : Type 0} where
  pub pairs_one : {R : A → A → Type 0} (x : A) → Pairs R (x ∷ [])
  pairs_one x = cons {x = x} {l = []} (λ y m. elim m [ ]) nil

  module _ {R : A → A → Type 0} where
    pub pairs_head : {x : A} {l : List A} → Pairs R (x ∷ l) → (y : A) → In y l → R x y
    pairs_head (cons u t) = u

    pub pairs_tail : {x : A} {l : List A} → Pairs R (x ∷ l) → Pairs R l
    pairs_tail (cons u t) = t

    -- of two elements, one comes first
    pub pairs_find : {l : List A} → Pairs R l → {x y : A} → In x l → In y l → x ≢ y → R x y ⊎ R y x
    pairs_find (cons u t) (here e) (here f) d = absurd (d (e ∙ sym f))
    pairs_find (cons u t) (here e) (there n) d = inl (rw e (u _ n))
    pairs_find (cons u t) (there m) (here f) d = inr (rw f (u _ m))
    pairs_find (cons u t) (there m) (there n) d = pairs_find t m n d
    pairs_find nil {y = y} x10 _ d = elim x10 [ ]

    pub pairs_keep : (p : A → Bool) {l : List A} → Pairs R l → Pairs R (keep p l)
    unfolding keep put
    pairs_keep p nil = nil
    pairs_keep p (cons {x = x} {l = l} h t) = go (p x) (pairs_keep p t)
      where
        go : (b : Bool) → Pairs R (keep p l) → Pairs R (put b x (keep p l))
        go true k = cons (λ y m. h y (in_keep p l m).0) k
        go false k = k

    pub pairs_append : {a b : List A} → Pairs R a → Pairs R b → ((x y : A) → In x a → In y b → R x y) → Pairs R (a ++ b)
    pairs_append nil k h = k
    pairs_append {b = b} (cons {x = x} {l = l} u t) k h =
        cons (λ y m. go y (Memᴰ.append_cases l m)) (pairs_append t k (λ v w m n. h v w (there m) n))
      where
        go : (y : A) → In y l ⊎ In y b → R x y
        go y (inl m) = u y m
        go y (inr m) = h x y (here refl) m

    -- and of the two parts of such a list
    pub pairs_front : (a b : List A) → Pairs R (a ++ b) → Pairs R a
    pairs_front [] b p = nil
    pairs_front (x ∷ a) b (cons u t) = cons (λ y m. u y (Memᴰ.append_left b m)) (pairs_front a b t)

    pub pairs_behind : (a : List A) {b : List A} → Pairs R (a ++ b) → Pairs R b
    pairs_behind [] p = p
    pairs_behind (x ∷ a) (cons u t) = pairs_behind a t

    pub pairs_across : (a : List A) {b : List A} → Pairs R (a ++ b) → (x y : A) → In x a → In y b → R x y
    pairs_across (z ∷ a) (cons u t) x y (here e) n = rw e (u y (Memᴰ.append_right a n))
    pairs_across (z ∷ a) (cons u t) x y (there m) n = pairs_across a t x y m n
    pairs_across [] {b = b} _ x y x6 n = elim x6 [ ]

    pub pairs_map : {S : A → A → Type 0} {l : List A} → Pairs R l → ((x y : A) → In x l → In y l → R x y → S x y) → Pairs S l
    pairs_map nil h = nil
    pairs_map (cons u t) h = cons (λ y m. h _ y (here refl) (there m) (u y m)) (pairs_map t (λ x y m n. h x y (there m) (there n)))

    pub pairs_both : {S : A → A → Type 0} {l : List A} → Pairs R l → Pairs S l → Pairs (λ x y. R x y × S x y) l
    pairs_both nil nil = nil
    pairs_both (cons u t) (cons v p) = cons (λ y m. (u y m, v y m)) (pairs_both t p)

-- between images, and back
module _ {A B : Type 0} {R : B → B → Type 0} (g : A → B) where
  pub pairs_image : {l : List A} → Pairs (λ x y. R (g x) (g y)) l → Pairs R (map g l)
  pairs_image nil = nil
  pairs_image (cons {x = x} {l = l} u t) = cons {x = g x} (λ y m. let k = in_map g l m in rw k.2 (u k.0 k.1)) (pairs_image t)

  pub image_pairs : (l : List A) → Pairs R (map g l) → Pairs (λ x y. R (g x) (g y)) l
  image_pairs [] p = nil
  image_pairs (x ∷ l) (cons u t) = cons (λ y m. u (g y) (map_in g m)) (image_pairs l t)
