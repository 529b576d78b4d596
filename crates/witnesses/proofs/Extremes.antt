-- The smallest and the largest key, begun with a number: it bounds them, and it is that number or one of them.
-- Assumes nothing.
use Prim.Native.Nat.{ℕ, ◌≤◌, min, max}
use mathlib.Core.Path.{◌≡◌, refl, ap}
use mathlib.Core.Logic.{◌⊎◌, inl, inr}
use mathlib.Core.List.Memᴰ.{head as here}
use mathlib.Core.List.Memᴰ.{tail as there}
use mathlib.Core.List.{List, [], ◌∷◌, Memᴰ as In}
use native.Mathlib.Omega.{arith}
use native.Mathlib.Decide.{dec_le}
use Rattle.methods.specs.Extremes.{least, greatest}

module _ {A : Type 0} (key : A → ℕ) where
  pub least_begin : (m : ℕ) (l : List A) → least key m l ≤ m
  unfolding least
  least_begin m [] = omega arith
  least_begin m (x ∷ l) = omega (arith, least_begin m l)

  pub least_low : (m : ℕ) (l : List A) {x : A} → In x l → least key m l ≤ key x
  unfolding least
  least_low m (y ∷ l) (here e) = omega (arith, ap key e)
  least_low m (y ∷ l) (there n) = omega (arith, least_low m l n)
  least_low m [] x3 = elim x3 [ ]

  pub least_is : (m : ℕ) (l : List A) → (least key m l ≡ m) ⊎ ((x : A) × In x l × (least key m l ≡ key x))
  unfolding least
  least_is m [] = inl refl
  least_is m (y ∷ l) = go (dec_le (key y) (least key m l)) (least_is m l)
    where
      Is : List A → ℕ → Type 0
      Is l n = (n ≡ m) ⊎ ((x : A) × In x l × (n ≡ key x))

      go : Dec (key y ≤ least key m l) → Is l (least key m l) → Is (y ∷ l) (min (key y) (least key m l))
      go (yes h) i = inr (y, here refl, omega arith)
      go (no h) (inl e) = inl (omega arith)
      go (no h) (inr (x, n, e)) = inr (x, there n, omega arith)

  pub least_first : (m : ℕ) (l : List A) → ((x : A) → In x l → m ≤ key x) → least key m l ≡ m
  unfolding least
  least_first m [] h = refl
  least_first m (x ∷ l) h = omega (arith, h x (here refl), least_first m l (λ y n. h y (there n)))

  pub greatest_first : (m : ℕ) (l : List A) → m ≤ greatest key m l
  unfolding greatest
  greatest_first m [] = omega arith
  greatest_first m (x ∷ l) = omega (arith, greatest_first m l)

  pub greatest_in : (m : ℕ) (l : List A) {x : A} → In x l → key x ≤ greatest key m l
  unfolding greatest
  greatest_in m (y ∷ l) (here e) = omega (arith, ap key e)
  greatest_in m (y ∷ l) (there n) = omega (arith, greatest_in m l n)
  greatest_in m [] x3 = elim x3 [ ]

  pub greatest_is : (m : ℕ) (l : List A) → (greatest key m l ≡ m) ⊎ ((x : A) × In x l × (greatest key m l ≡ key x))
  unfolding greatest
  greatest_is m [] = inl refl
  greatest_is m (x ∷ l) = go (dec_le (greatest key m l) (key x)) (greatest_is m l)
    where
      Is : List A → ℕ → Type 0
      Is l n = (n ≡ m) ⊎ ((y : A) × In y l × (n ≡ key y))

      go : Dec (greatest key m l ≤ key x) → Is l (greatest key m l) → Is (x ∷ l) (max (key x) (greatest key m l))
      go (yes h) i = inr (x, here refl, omega arith)
      go (no h) (inl e) = inl (omega arith)
      go (no h) (inr (y, n, e)) = inr (y, there n, omega arith)
