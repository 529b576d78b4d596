-- Membership (mathlib's `List-as-Memᴰ`, here `In`) in the lists and tests of specs/Lists.antt.
-- Assumes nothing.
use Prim.Native.Nat.{ℕ}
use mathlib.Core.Path.{◌≡◌, refl, ap, ap₂, ◌∙◌}
use mathlib.Core.Bool.{Bool, true, false, cond, ◌||◌}
use mathlib.Core.List.Memᴰ.{head as here}
use mathlib.Core.List.Memᴰ.{tail as there}
use mathlib.Core.List.{List, [], ◌∷◌, map, Memᴰ as In}
use native.Mathlib.Omega.{arith}
use Rattle.std.specs.Prelude.{Option, Some, None}
use Rattle.lists.specs.Lists.{put, keep, any, first}
use Rattle.lists.proofs.Tests.{Told, holds, fails}

module _ {A : Type 0} where
  pub in_keep : (p : A → Bool) (l : List A) {y : A} → In y (keep p l) → In y l × (p y ≡ true)
  unfolding keep put
  in_keep p (x ∷ l) {y} m = go (p x) refl m (in_keep p l)
    where
      go : (b : Bool) → p x ≡ b → In y (put b x (keep p l)) → (In y (keep p l) → In y l × (p y ≡ true)) → In y (x ∷ l) × (p y ≡ true)
      go true e (here q) ih = (here q, ap p q ∙ e)
      go true e (there k) ih = (there (ih k).0, (ih k).1)
      go false e k ih = (there (ih k).0, (ih k).1)
  in_keep p [] {y = y} m = elim m [ ]

  -- a list all of which passes is kept whole
  pub keep_all : (p : A → Bool) (l : List A) → ((x : A) → In x l → p x ≡ true) → keep p l ≡ l
  unfolding keep put
  keep_all p [] h = refl
  keep_all p (x ∷ l) h = rw (h x (here refl), keep_all p l (λ y m. h y (there m))) refl

  pub keep_in : (p : A → Bool) (l : List A) {y : A} → In y l → p y ≡ true → In y (keep p l)
  unfolding keep put
  keep_in p (x ∷ l) (here q) h = rw (← ap p q, h) (here q)
  keep_in p (x ∷ l) {y} (there k) h = go (p x) (keep_in p l k h)
    where
      go : (b : Bool) → In y (keep p l) → In y (put b x (keep p l))
      go true m = there m
      go false m = m
  keep_in p [] {y = y} x'' h = elim x'' [ ]

  -- tests that agree on the members keep the same, find the same, and answer the same
  module _ (p q : A → Bool) where
    pub keep_ext : (l : List A) → ((x : A) → In x l → p x ≡ q x) → keep p l ≡ keep q l
    unfolding keep
    keep_ext [] h = refl
    keep_ext (x ∷ l) h = ap₂ (λ b r. put b x r) (h x (here refl)) (keep_ext l (λ y m. h y (there m)))

    pub any_ext : (l : List A) → ((x : A) → In x l → p x ≡ q x) → any p l ≡ any q l
    unfolding any
    any_ext [] h = refl
    any_ext (x ∷ l) h = ap₂ (λ b r. b || r) (h x (here refl)) (any_ext l (λ y m. h y (there m)))

    pub first_ext : (key : A → ℕ) (l : List A) → ((x : A) → In x l → p x ≡ q x) → first key p l ≡ first key q l
    unfolding first
    first_ext key [] h = refl
    first_ext key (x ∷ l) h = ap₂ (λ b r. cond b (Some (key x)) r) (h x (here refl)) (first_ext key l (λ y m. h y (there m)))

  -- one element more in front of a search
  module _ (p : A → Bool) (x : A) (l : List A) where
    pub first_cons_hit : (key : A → ℕ) → p x ≡ true → first key p (x ∷ l) ≡ Some (key x)
    unfolding first
    first_cons_hit key e = rw e

    pub first_cons_miss : (key : A → ℕ) → p x ≡ false → first key p (x ∷ l) ≡ first key p l
    unfolding first
    first_cons_miss key e = rw e

  -- some element passes, as a test that tells of the elements
  pub told_any : {P : A → Type 0} (p : A → Bool) (l : List A) → ((x : A) → Told (P x) (p x)) → Told ((x : A) × In x l × P x) (any p l)
  unfolding any
  told_any p [] h = fails (λ k. elim k.1 [ ])
  told_any {P} p (x ∷ l) h = go (p x) (h x) (any p l) (told_any p l h)
    where
      Some : List A → Type 0
      Some k = (y : A) × In y k × P y

      behind : Some l → Some (x ∷ l)
      behind k = (k.0, there k.1, k.2)

      neither : (P x → ⊥) → (Some l → ⊥) → (y : A) → In y (x ∷ l) → P y → ⊥
      neither n m y (here e) q = n (rw (← e) q)
      neither n m y (there k) q = m (y, k, q)

      go : (b : Bool) → Told (P x) b → (c : Bool) → Told (Some l) c → Told (Some (x ∷ l)) (b || c)
      go true (holds q) c t = holds (x, here refl, q)
      go false (fails n) true (holds k) = holds (behind k)
      go false (fails n) false (fails m) = fails (λ k. neither n m k.0 k.1 k.2)

  -- the search finds nothing if and only if no element passes
  module _ (key : A → ℕ) (p : A → Bool) where
    nothing_cons : (b : Bool) (n : ℕ) (r : Option ℕ) → cond b (Some n) r ≡ None → (b ≡ false) × (r ≡ None)
    nothing_cons true n r e = let z : ◌≡◌ {A = ℕ} 0 1 = cc in absurd (omega arith)
    nothing_cons false n r e = (refl, e)

    pub nothing_none : (l : List A) → first key p l ≡ None → (x : A) → In x l → p x ≡ false
    unfolding first
    nothing_none (y ∷ l) e x (here q) = ap p q ∙ (nothing_cons (p y) (key y) (first key p l) e).0
    nothing_none (y ∷ l) e x (there m) = nothing_none l (nothing_cons (p y) (key y) (first key p l) e).1 x m
    nothing_none [] e x x4 = elim x4 [ ]

    pub none_nothing : (l : List A) → ((x : A) → In x l → p x ≡ false) → first key p l ≡ None
    unfolding first
    none_nothing [] h = refl
    none_nothing (y ∷ l) h = rw (h y (here refl)) (none_nothing l (λ x m. h x (there m)))

  pub map_ext : {B : Type 0} (f g : A → B) (l : List A) → ((x : A) → In x l → f x ≡ g x) → map f l ≡ map g l
  map_ext f g [] h = refl
  map_ext f g (x ∷ l) h = ap₂ (λ y r. y ∷ r) (h x (here refl)) (map_ext f g l (λ y m. h y (there m)))

-- a search among images
pub first_map : {A B : Type 0} (f : A → B) (key : B → ℕ) (p : B → Bool) (l : List A) → first key p (map f l) ≡ first (λ x. key (f x)) (λ x. p (f x)) l
unfolding first
first_map f key p [] = refl
first_map f key p (x ∷ l) = ap (cond (p (f x)) (Some (key (f x)))) (first_map f key p l)
