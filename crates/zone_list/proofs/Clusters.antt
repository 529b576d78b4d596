-- The stamps of a cluster by position are those of the register's rows, in whatever sequence these stand.
-- Assumes nothing.
use Prim.Native.Nat.{ℕ, zero, suc, ◌+◌, ◌≤◌, ◌<◌, min, max}
use mathlib.Core.Path.{◌≡◌, refl, ap, sym, ◌∙◌}
use mathlib.Core.Bool.{Bool, true, false, cond}
use mathlib.Core.Logic.{◌⊎◌, inl, inr, ◌≢◌}
use mathlib.Core.List.{List, [], ◌∷◌, ◌++◌, map}
use native.Mathlib.Omega.{arith}
use lib.ListN.{length, get_or, take}
use lib.Seq.{take-suc, take-length}
use borrow.Author.Tests.{eqb-true, eq-eqb, ne_eqb}
use Rattle.lists.specs.Lists.{keep, put}
use Rattle.lists.specs.Sorts.{insert, sort}
use Rattle.lists.proofs.Tests.{test, true_not}
use Rattle.lists.proofs.Images.{map_append, keep_map}
use Rattle.methods.specs.Extremes.{least, greatest}
use Rattle.positions.specs.Places.{upto}
use Rattle.positions.specs.Columns.{mine, is_read, read_of}
use Rattle.positions.proofs.Places.{below, keep_upto, upto_more, upto_out, upto_ext}

-- What is gathered from a list, one element after the other, in whatever sequence.
module _ {A : Type 0} (F : List A → ℕ) (op : A → ℕ → ℕ) (step : (x : A) (l : List A) → F (x ∷ l) ≡ op x (F l)) (swap : (x y : A) (n : ℕ) → op x (op y n) ≡ op y (op x n))
    (p : A → Bool) (le : A → A → Bool) where
  turn : (b c : Bool) (w x : A) (k l : List A) → F k ≡ F (put b w l) → F (put c x k) ≡ F (put b w (put c x l))
  unfolding put
  turn true true w x k l e = step x k ∙ ap (op x) (e ∙ step w l) ∙ swap x w (F l) ∙ ap (op w) (sym (step x l)) ∙ sym (step w (x ∷ l))
  turn true false w x k l e = e
  turn false true w x k l e = step x k ∙ ap (op x) e ∙ sym (step x l)
  turn false false w x k l e = e

  gather_insert : (w : A) (l : List A) → F (keep p (insert le w l)) ≡ F (put (p w) w (keep p l))
  unfolding insert keep
  gather_insert w [] = refl
  gather_insert w (x ∷ l) = go (le w x) (gather_insert w l)
    where
      go : (b : Bool) → F (keep p (insert le w l)) ≡ F (put (p w) w (keep p l))
          → F (keep p (cond b (w ∷ (x ∷ l)) (x ∷ insert le w l))) ≡ F (put (p w) w (put (p x) x (keep p l)))
      go true e = refl
      go false e = turn (p w) (p x) w x (keep p (insert le w l)) (keep p l) e

  gather_put : (b : Bool) (w : A) (k l : List A) → F k ≡ F l → F (put b w k) ≡ F (put b w l)
  unfolding put
  gather_put true w k l e = step w k ∙ ap (op w) e ∙ sym (step w l)
  gather_put false w k l e = e

  pub gather_sort : (l : List A) → F (keep p (sort le l)) ≡ F (keep p l)
  unfolding sort keep
  gather_sort [] = refl
  gather_sort (x ∷ l) = gather_insert x (sort le l) ∙ gather_put (p x) x (keep p (sort le l)) (keep p l) (gather_sort l)

module _ {A : Type 0} (key : A → ℕ) (m : ℕ) (p : A → Bool) (le : A → A → Bool) (l : List A) where
  pub least_sort : least key m (keep p (sort le l)) ≡ least key m (keep p l)
  unfolding least
  least_sort = gather_sort (least key m) (λ x n. min (key x) n) (λ x k. refl) (λ x y n. omega arith) p le l

  pub greatest_sort : greatest key m (keep p (sort le l)) ≡ greatest key m (keep p l)
  unfolding greatest
  greatest_sort = gather_sort (greatest key m) (λ x n. max (key x) n) (λ x k. refl) (λ x y n. omega arith) p le l

-- of an image
pub least_map : {A B : Type 0} (key : B → ℕ) (m : ℕ) (f : A → B) (l : List A) → least key m (map f l) ≡ least (λ x. key (f x)) m l
unfolding least
least_map key m f [] = refl
least_map key m f (x ∷ l) = ap (min (key (f x))) (least_map key m f l)

pub greatest_map : {A B : Type 0} (key : B → ℕ) (m : ℕ) (f : A → B) (l : List A) → greatest key m (map f l) ≡ greatest (λ x. key (f x)) m l
unfolding greatest
greatest_map key m f [] = refl
greatest_map key m f (x ∷ l) = ap (max (key (f x))) (greatest_map key m f l)

-- with one element more at the end: it is looked at last, or first
least_more : {A : Type 0} (key : A → ℕ) (m : ℕ) (l : List A) (x : A) → least key m (l ++ (x ∷ [])) ≡ min (least key m l) (key x)
unfolding least
least_more key m [] x = omega arith
least_more key m (y ∷ l) x = rw (least_more key m l x) (omega arith)

pub greatest_more : {A : Type 0} (key : A → ℕ) (m : ℕ) (l : List A) (x : A) → greatest key m (l ++ (x ∷ [])) ≡ max (greatest key m l) (key x)
unfolding greatest
greatest_more key m [] x = omega arith
greatest_more key m (y ∷ l) x = rw (greatest_more key m l x) (omega arith)

pub least_end : {A : Type 0} (key : A → ℕ) (m : ℕ) (l : List A) (x : A) → least key m (l ++ (x ∷ [])) ≡ least key (min m (key x)) l
unfolding least
least_end key m [] x = omega arith
least_end key m (y ∷ l) x = ap (min (key y)) (least_end key m l x)

greatest_end : {A : Type 0} (key : A → ℕ) (m : ℕ) (l : List A) (x : A) → greatest key m (l ++ (x ∷ [])) ≡ greatest key (max m (key x)) l
unfolding greatest
greatest_end key m [] x = omega arith
greatest_end key m (y ∷ l) x = ap (max (key y)) (greatest_end key m l x)

-- a list by its positions
front_at : {A : Type 0} (g : ℕ → A) (l : List ℕ) (n : ℕ) → n ≤ length l → map (λ j. g (get_or l j 0)) (upto (λ j. true) n) ≡ map g (take n l)
unfolding upto
front_at g l zero h = refl
front_at {A} g l (suc n) h =
    map_append (λ j. g (get_or l j 0)) (upto (λ j. true) n) (n ∷ [])
    ∙ ap (λ (k : List A). k ++ (g (get_or l n 0) ∷ [])) (front_at g l n (omega arith))
    ∙ sym (ap (map g) (take-suc l n 0 (omega arith)) ∙ map_append g (take n l) (get_or l n 0 ∷ []))

-- what passes, by the positions at which it does
pub keep_at : {A : Type 0} (g : ℕ → A) (l : List ℕ) (p : A → Bool) (P : ℕ → Bool) → ((j : ℕ) → j < length l → p (g (get_or l j 0)) ≡ P j)
    → keep p (map g l) ≡ map (λ j. g (get_or l j 0)) (upto P (length l))
keep_at g l p P h =
    ap (keep p) (sym (front_at g l (length l) (omega arith) ∙ ap (map g) (take-length l)))
    ∙ keep_map (λ j. g (get_or l j 0)) p (upto (λ j. true) (length l))
    ∙ ap (map (λ j. g (get_or l j 0))) (keep_upto (λ j. true) (λ j. p (g (get_or l j 0))) (length l) ∙ upto_ext (length l) h)

-- The cluster of a write is the write and its reads: what is gathered from the one is gathered from the other, begun with the write.
module _ (writer : List ℕ) (w : ℕ) (own : get_or writer w 0 ≡ w) where
  -- but for the write they are the same positions
  same_but : (j : ℕ) → j ≢ w → mine writer w j ≡ read_of writer w j
  same_but j n = go (test (mine writer w j))
    where
      go : (mine writer w j ≡ true) ⊎ (mine writer w j ≡ false) → mine writer w j ≡ read_of writer w j
      go (inl e) = let r : is_read writer j ≡ true = true_not (ne_eqb (get_or writer j 0) j (λ q. n (sym q ∙ eqb-true (get_or writer j 0) w e))) in rw (e, r) refl
      go (inr e) = rw e refl

  write_mine : mine writer w w ≡ true
  write_mine = eq-eqb (get_or writer w 0) w own

  not_read : read_of writer w w ≡ false
  not_read = rw write_mine refl

  -- F gathers from a list, G the same begun with the write
  module _ (F G : List ℕ → ℕ) (op : ℕ → ℕ → ℕ) (more-f : (l : List ℕ) (x : ℕ) → F (l ++ (x ∷ [])) ≡ op (F l) x) (more-g : (l : List ℕ) (x : ℕ) → G (l ++ (x ∷ [])) ≡ op (G l) x)
      (begun : (l : List ℕ) → F (l ++ (w ∷ [])) ≡ G l) where
    own_first : (n : ℕ) → w < n → F (upto (mine writer w) n) ≡ G (upto (read_of writer w) n)
    own_first zero l = absurd (omega arith)
    own_first (suc n) l = let e : suc n ≡ n + 1 = omega arith in rw e (go (below w n) (own_first n))
      where
        step : w < n → F (upto (mine writer w) n) ≡ G (upto (read_of writer w) n) → (mine writer w n ≡ true) ⊎ (mine writer w n ≡ false) →
            F (upto (mine writer w) (n + 1)) ≡ G (upto (read_of writer w) (n + 1))
        step k ih (inl m) =
            let r : read_of writer w n ≡ true = sym (same_but n (λ q. omega (arith, q))) ∙ m in
            rw (upto_more (mine writer w) n m, upto_more (read_of writer w) n r) (more-f _ n ∙ ap (λ (x : ℕ). op x n) ih ∙ sym (more-g _ n))
        step k ih (inr m) =
            let r : read_of writer w n ≡ false = sym (same_but n (λ q. omega (arith, q))) ∙ m in
            rw (upto_out (mine writer w) n m, upto_out (read_of writer w) n r) ih

        go : (w < n) ⊎ (n ≤ w) → (w < n → F (upto (mine writer w) n) ≡ G (upto (read_of writer w) n)) → F (upto (mine writer w) (n + 1)) ≡ G (upto (read_of writer w) (n + 1))
        go (inl k) ih = step k (ih k) (test (mine writer w n))
        go (inr k) ih =
            let q : n ≡ w = omega arith in
            let s : upto (mine writer w) w ≡ upto (read_of writer w) w = upto_ext {P = mine writer w} {Q = read_of writer w} w (λ j m. same_but j (λ x. omega (arith, x))) in
            rw (q, upto_more (mine writer w) w write_mine, upto_out (read_of writer w) w not_read) (begun _ ∙ ap G s)

  pub least_own : (key : ℕ → ℕ) (m : ℕ) → w < length writer → key w ≤ m → least key m (upto (mine writer w) (length writer)) ≡ least key (key w) (upto (read_of writer w) (length writer))
  least_own key m l k =
      own_first (least key m) (least key (key w)) (λ x j. min x (key j)) (λ y j. least_more key m y j) (λ y j. least_more key (key w) y j)
      (λ y. least_end key m y w ∙ (let e : min m (key w) ≡ key w = omega arith in rw e refl)) (length writer) l

  pub greatest_own : (key : ℕ → ℕ) → w < length writer → greatest key 0 (upto (mine writer w) (length writer)) ≡ greatest key (key w) (upto (read_of writer w) (length writer))
  greatest_own key l =
      own_first (greatest key 0) (greatest key (key w)) (λ x j. max x (key j)) (λ y j. greatest_more key 0 y j) (λ y j. greatest_more key (key w) y j)
      (λ y. greatest_end key 0 y w ∙ (let e : max 0 (key w) ≡ key w = omega arith in rw e refl)) (length writer) l
