-- What is listed in a list, in two, or in one that grows.
-- Assumes nothing.
use Prim.Native.Nat.{ℕ}
use mathlib.Core.Path.{◌≡◌, refl}
use mathlib.Core.Bool.{Bool, true, false, not, cond}
use mathlib.Core.Logic.{◌⊎◌, inl, inr}
use mathlib.Core.List.Memᴰ.{head as here}
use mathlib.Core.List.Memᴰ.{tail as there}
use mathlib.Core.List.{List, [], ◌∷◌, ◌++◌, Memᴰ as In}
use lib.Dec.{eqb}
use borrow.Author.Tests.{eq-eqb, eqb-true, not-false}
use Rattle.lists.specs.Lists.{all}
use Rattle.lists.proofs.Tests.{both, test}
use Rattle.freeing.specs.Marks.{unlisted}

-- what is listed in one of two lists
pub all_append : {A : Type 0} (p : A → Bool) (a b : List A) → all p (a ++ b) ≡ cond (all p a) (all p b) false
unfolding all
all_append p [] b = refl
all_append p (x ∷ a) b = go (p x) (all_append p a b)
  where
    go : (t : Bool) → all p (a ++ b) ≡ cond (all p a) (all p b) false → cond t (all p (a ++ b)) false ≡ cond (cond t (all p a) false) (all p b) false
    go true e = e
    go false e = refl

yes : (b : Bool) → cond b true false ≡ b
yes true = refl
yes false = refl

pub all_one : {A : Type 0} (p : A → Bool) (x : A) → all p (x ∷ []) ≡ p x
unfolding all
all_one p x = yes (p x)

-- a listed one
pub listed : (l : List ℕ) (w : ℕ) → In w l → unlisted l w ≡ false
unfolding all
listed (x ∷ l) w (here e) = rw (eq-eqb w x e)
listed (x ∷ l) w (there m) = go (not (eqb w x)) (listed l w m)
  where
    go : (b : Bool) → unlisted l w ≡ false → cond b (unlisted l w) false ≡ false
    go true e = e
    go false e = refl
listed [] w x' = elim x' [ ]

-- and back
pub in_listed : (l : List ℕ) (w : ℕ) → unlisted l w ≡ false → In w l
unfolding all
in_listed [] w e = absurd (both refl e)
in_listed (x ∷ l) w e = go (test (not (eqb w x))) e (in_listed l w)
  where
    go : (not (eqb w x) ≡ true) ⊎ (not (eqb w x) ≡ false) → cond (not (eqb w x)) (unlisted l w) false ≡ false → (unlisted l w ≡ false → In w l) → In w (x ∷ l)
    go (inl q) k ih = there (ih (rw q at k))
    go (inr q) k ih = here (eqb-true w x (not-false _ q))
