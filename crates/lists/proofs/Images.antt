-- How parts, images, joins and sorts of lists go together, and their elements by position.
-- Assumes nothing.
use Prim.Native.Nat.{ℕ, zero, suc, ◌<◌}
use mathlib.Core.Path.{◌≡◌, refl, ap, sym, ◌∙◌}
use mathlib.Core.Bool.{Bool, true, false, cond}
use mathlib.Core.List.Memᴰ.{head as here}
use mathlib.Core.List.Memᴰ.{tail as there}
use mathlib.Core.List.{List, [], ◌∷◌, ◌++◌, map, Memᴰ as In}
use native.Mathlib.Omega.{arith}
use lib.ListN.{length, get_or, take, drop}
use Rattle.lists.specs.Lists.{keep, put}
use Rattle.lists.specs.Sorts.{insert, sort}
use Rattle.lists.specs.Pairs.{Pairs, nil, cons}
use Rattle.lists.proofs.Members.{in_keep}
use Rattle.lists.proofs.Sorts.{in_sort}

pub keep_append : {A : Type 0} (q : A → Bool) (a b : List A) → keep q (a ++ b) ≡ keep q a ++ keep q b
unfolding keep put
keep_append q [] b = refl
keep_append {A} q (x ∷ a) b = go (q x) (keep_append q a b)
  where
    go : (t : Bool) → keep q (a ++ b) ≡ keep q a ++ keep q b → put t x (keep q (a ++ b)) ≡ put t x (keep q a) ++ keep q b
    go true e = ap (λ (l : List A). x ∷ l) e
    go false e = e

pub keep_map : {A B : Type 0} (f : A → B) (q : B → Bool) (l : List A) → keep q (map f l) ≡ map f (keep (λ x. q (f x)) l)
unfolding keep put
keep_map f q [] = refl
keep_map {A} {B} f q (x ∷ l) = go (q (f x)) (keep_map f q l)
  where
    go : (b : Bool) → keep q (map f l) ≡ map f (keep (λ x. q (f x)) l) → put b (f x) (keep q (map f l)) ≡ map f (put b x (keep (λ x. q (f x)) l))
    go true e = ap (λ (z : List B). f x ∷ z) e
    go false e = e

-- an image of an image
pub map_twice : {A B C : Type 0} (f : B → C) (g : A → B) (l : List A) → map f (map g l) ≡ map (λ x. f (g x)) l
map_twice f g [] = refl
map_twice {C = C} f g (x ∷ l) = ap (λ (z : List C). f (g x) ∷ z) (map_twice f g l)

pub map_append : {A B : Type 0} (f : A → B) (a b : List A) → map f (a ++ b) ≡ map f a ++ map f b
map_append f [] b = refl
map_append {A} {B} f (x ∷ a) b = ap (λ (z : List B). f x ∷ z) (map_append f a b)

-- Sorting and mapping, sorting and keeping.
module _ {A B : Type 0} (f : A → B) (le : B → B → Bool) where
  insert_map : (w : A) (l : List A) → insert le (f w) (map f l) ≡ map f (insert (λ x y. le (f x) (f y)) w l)
  unfolding insert
  insert_map w [] = refl
  insert_map w (x ∷ l) = go (le (f w) (f x)) (insert_map w l)
    where
      go : (b : Bool) → insert le (f w) (map f l) ≡ map f (insert (λ x y. le (f x) (f y)) w l)
          → cond b (f w ∷ (f x ∷ map f l)) (f x ∷ insert le (f w) (map f l)) ≡ map f (cond b (w ∷ (x ∷ l)) (x ∷ insert (λ x y. le (f x) (f y)) w l))
      go true e = refl
      go false e = ap (λ (z : List B). f x ∷ z) e

  pub sort_map : (l : List A) → sort le (map f l) ≡ map f (sort (λ x y. le (f x) (f y)) l)
  unfolding sort
  sort_map [] = refl
  sort_map (x ∷ l) = rw (sort_map l) (insert_map x (sort (λ x y. le (f x) (f y)) l))

module _ {A : Type 0} (le : A → A → Bool) where
  -- one that goes before all goes to the front, and a sorted list stays
  pub insert_front : (w : A) (l : List A) → ((y : A) → In y l → le w y ≡ true) → insert le w l ≡ w ∷ l
  unfolding insert
  insert_front w [] h = refl
  insert_front w (x ∷ l) h = rw (h x (here refl))

  pub sort_sorted : {l : List A} → Pairs (λ x y. le x y ≡ true) l → sort le l ≡ l
  unfolding sort
  sort_sorted nil = refl
  sort_sorted (cons {x = x} {l = l} u t) = ap (insert le x) (sort_sorted t) ∙ insert_front x l u

module _ {A : Type 0} (le : A → A → Bool) (q : A → Bool) where
  -- an element that the test drops leaves no trace
  insert_out : (w : A) → q w ≡ false → (l : List A) → keep q (insert le w l) ≡ keep q l
  unfolding insert keep put
  insert_out w e [] = rw e
  insert_out w e (x ∷ l) = go (le w x) (insert_out w e l)
    where
      go : (b : Bool) → keep q (insert le w l) ≡ keep q l → keep q (cond b (w ∷ (x ∷ l)) (x ∷ insert le w l)) ≡ put (q x) x (keep q l)
      go true ih = rw e refl
      go false ih = ap (put (q x) x) ih

  module _ (trans : (x y z : A) → le x y ≡ true → le y z ≡ true → le x z ≡ true) where
    insert_in : (w : A) → q w ≡ true → {l : List A} → Pairs (λ x y. le x y ≡ true) l → keep q (insert le w l) ≡ insert le w (keep q l)
    unfolding insert keep put
    insert_in w e nil = rw e
    insert_in w e (cons {x = x} {l = l} u t) = go (le w x) refl (q x) refl (insert_in w e t)
      where
        go : (b : Bool) → le w x ≡ b → (c : Bool) → q x ≡ c → keep q (insert le w l) ≡ insert le w (keep q l)
            → keep q (cond b (w ∷ (x ∷ l)) (x ∷ insert le w l)) ≡ insert le w (put c x (keep q l))
        go true a true d ih = rw (e, d, a) refl
        go true a false d ih = rw (e, d) (sym (insert_front le w (keep q l) (λ y m. trans w x y a (u y (in_keep q l m).0))))
        go false a true d ih = rw (d, a) (ap (λ (z : List A). x ∷ z) ih)
        go false a false d ih = rw d ih

    pub sort_keep : (ordered : (l : List A) → Pairs (λ x y. le x y ≡ true) (sort le l)) → (l : List A) → keep q (sort le l) ≡ sort le (keep q l)
    unfolding sort keep put
    sort_keep o [] = refl
    sort_keep o (x ∷ l) = go (q x) refl (sort_keep o l)
      where
        go : (b : Bool) → q x ≡ b → keep q (sort le l) ≡ sort le (keep q l) → keep q (insert le x (sort le l)) ≡ sort le (put b x (keep q l))
        go true e ih = insert_in x e (o l) ∙ ap (insert le x) ih
        go false e ih = insert_out x e (sort le l) ∙ ih

-- nothing passes
pub keep_none : {A : Type 0} (q : A → Bool) (l : List A) → ((x : A) → In x l → q x ≡ false) → keep q l ≡ []
unfolding keep put
keep_none q [] h = refl
keep_none q (x ∷ l) h = rw (h x (here refl)) (keep_none q l (λ y m. h y (there m)))

-- two tests that agree on the elements sort alike
module _ {A : Type 0} (le me : A → A → Bool) where
  insert_ext : (w : A) (l : List A) → ((y : A) → In y l → le w y ≡ me w y) → insert le w l ≡ insert me w l
  unfolding insert
  insert_ext w [] h = refl
  insert_ext w (x ∷ l) h = go (me w x) (h x (here refl)) (insert_ext w l (λ y m. h y (there m)))
    where
      go : (b : Bool) → le w x ≡ b → insert le w l ≡ insert me w l → cond (le w x) (w ∷ (x ∷ l)) (x ∷ insert le w l) ≡ cond b (w ∷ (x ∷ l)) (x ∷ insert me w l)
      go true e ih = rw e refl
      go false e ih = rw e (ap (λ (z : List A). x ∷ z) ih)

  -- where they agree on each element and the later ones, too
  pub sort_as : {l : List A} → Pairs (λ x y. le x y ≡ me x y) l → sort le l ≡ sort me l
  unfolding sort
  sort_as nil = refl
  sort_as (cons {x = x} {l = l} u t) = insert_ext x (sort le l) (λ y m. u y (in_sort le l m)) ∙ ap (insert me x) (sort_as t)

  pub sort_ext : (l : List A) → ((x y : A) → In x l → In y l → le x y ≡ me x y) → sort le l ≡ sort me l
  unfolding sort
  sort_ext [] h = refl
  sort_ext (x ∷ l) h =
      insert_ext x (sort le l) (λ y m. h x y (here refl) (there (in_sort le l m))) ∙ ap (insert me x) (sort_ext l (λ a b m n. h a b (there m) (there n)))

module _ {A B : Type 0} (f : A → B) where
  -- below the length no default is seen
  pub get_d_map : (l : List A) (i : ℕ) (d : B) (e : A) → i < length l → get_or (map f l) i d ≡ f (get_or l i e)
  get_d_map [] i d e h = absurd (omega arith)
  get_d_map (x ∷ l) zero d e h = refl
  get_d_map (x ∷ l) (suc i) d e h = get_d_map l i d e (omega arith)

module _ {A : Type 0} where
  pub get_d_in : (l : List A) (d : A) (i : ℕ) → i < length l → In (get_or l i d) l
  get_d_in [] d i h = absurd (omega arith)
  get_d_in (x ∷ l) d zero h = here refl
  get_d_in (x ∷ l) d (suc i) h = there (get_d_in l d i (omega arith))

  -- a member stands at a position
  pub in_at : {y : A} {l : List A} (d : A) → In y l → (i : ℕ) × (i < length l) × (get_or l i d ≡ y)
  in_at d (here e) = (0, omega arith, sym e)
  in_at d (there m) = let k = in_at d m in (suc k.0, omega (arith, k.1), k.2)

  -- an element stands in R to those behind it, and to one at a later position
  pub pairs_drop : {R : A → A → Type 0} {l : List A} (d : A) → Pairs R l → (i : ℕ) → i < length l → (y : A) → In y (drop (suc i) l) → R (get_or l i d) y
  pairs_drop d nil i h y m = absurd (omega arith)
  pairs_drop d (cons u t) zero h y m = u y m
  pairs_drop d (cons u t) (suc i) h y m = pairs_drop d t i (omega arith) y m

  pub pairs_at : {R : A → A → Type 0} {l : List A} (d : A) → Pairs R l → (i k : ℕ) → i < k → k < length l → R (get_or l i d) (get_or l k d)
  pairs_at d nil i k h g = absurd (omega arith)
  pairs_at d (cons {x = x} {l = l} u p) i zero h g = absurd (omega arith)
  pairs_at d (cons {x = x} {l = l} u p) zero (suc k) h g = u (get_or l k d) (get_d_in l d k (omega arith))
  pairs_at d (cons {x = x} {l = l} u p) (suc i) (suc k) h g = pairs_at d p i k (omega arith) (omega arith)

  -- the first n of a list, and those behind them
  pub pairs_take : {R : A → A → Type 0} {l : List A} → Pairs R l → (n : ℕ) → Pairs R (take n l)
  pairs_take nil zero = nil
  pairs_take nil (suc n) = nil
  pairs_take (cons u t) zero = nil
  pairs_take (cons {x = x} {l = l} u t) (suc n) = cons {x = x} {l = take n l} (λ y m. u y (among n l m)) (pairs_take t n)
    where
      among : (n : ℕ) (l : List A) {y : A} → In y (take n l) → In y l
      among (suc n) (x ∷ l) (here e) = here e
      among (suc n) (x ∷ l) (there m) = there (among n l m)
      among zero _ {y = y} x3 = elim x3 [ ]
      among (suc n) [] {y = y} x5 = elim x5 [ ]

  pub pairs_from : {R : A → A → Type 0} {l : List A} → Pairs R l → (n : ℕ) → Pairs R (drop n l)
  pairs_from p zero = p
  pairs_from nil (suc n) = nil
  pairs_from {R = R} (cons {x = x} {l = l} u t) (suc n) = pairs_from {l = l} t n
