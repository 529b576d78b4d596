-- Whether each element passes a test, and what its two values say.
-- Assumes nothing.
use mathlib.Core.Path.{◌≡◌, refl, ap, ◌∙◌}
use mathlib.Core.Bool.{Bool, true, false, cond}
use mathlib.Core.List.Memᴰ.{head as here}
use mathlib.Core.List.Memᴰ.{tail as there}
use mathlib.Core.List.{List, [], ◌∷◌, Memᴰ as In}
use Rattle.lists.specs.Lists.{all}
use Rattle.lists.proofs.Tests.{both}

module _ {A : Type 0} where
  pub data All? (p : A → Bool) (l : List A) : Bool → Type 0 where
    each : ((x : A) → In x l → p x ≡ true) → All? p l true
    some_not : (x : A) → In x l → p x ≡ false → All? p l false

  pub all? : (p : A → Bool) (l : List A) → All? p l (all p l)
  unfolding all
  all? p [] = each (λ x m. elim m [ ])
  all? p (x ∷ l) = go (p x) refl (all p l) (all? p l)
    where
      first : p x ≡ true → ((y : A) → In y l → p y ≡ true) → (y : A) → In y (x ∷ l) → p y ≡ true
      first e h y (here q) = ap p q ∙ e
      first e h y (there m) = h y m

      go : (b : Bool) → p x ≡ b → (c : Bool) → All? p l c → All? p (x ∷ l) (cond b c false)
      go false e c h = some_not x (here refl) e
      go true e true (each h) = each (first e h)
      go true e false (some_not y m n) = some_not y (there m) n

  pub all_true : (p : A → Bool) (l : List A) → all p l ≡ true → (x : A) → In x l → p x ≡ true
  all_true p l e = go (all p l) (all? p l) e
    where
      go : (b : Bool) → All? p l b → b ≡ true → (x : A) → In x l → p x ≡ true
      go true (each h) e = h
      go false (some_not x m n) e = absurd (both e refl)

  pub true_all : (p : A → Bool) (l : List A) → ((x : A) → In x l → p x ≡ true) → all p l ≡ true
  true_all p l h = go (all p l) (all? p l)
    where
      go : (b : Bool) → All? p l b → b ≡ true
      go true i = refl
      go false (some_not x m n) = absurd (both (h x m) n)
