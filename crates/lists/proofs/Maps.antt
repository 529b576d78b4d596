-- Where members stand, and members of lists that are mapped or flattened.
-- Assumes nothing.
use mathlib.Core.Path.{◌≡◌, refl, sym, ap}
use mathlib.Core.Logic.{◌⊎◌, inl, inr}
use mathlib.Core.List.Memᴰ
use mathlib.Core.List.Memᴰ.{head as here}
use mathlib.Core.List.Memᴰ.{tail as there}
use mathlib.Core.List.{List, [], ◌∷◌, ◌++◌, map, flat_map, Memᴰ as In}

-- where a member stands
pub split_at : {A : Type 0} {x : A} {l : List A} → In x l → (a : List A) × (c : List A) × (l ≡ a ++ (x ∷ c))
split_at (here {xs = l} e) = ([], l, ap (λ y. y ∷ l) (sym e))
split_at (there {x = y} m) = let k = split_at m in (y ∷ k.0, k.1, ap (λ l. y ∷ l) k.2)

module _ {A B : Type 0} where
  pub in_map : (g : A → B) (l : List A) {y : B} → In y (map g l) → (x : A) × In x l × (y ≡ g x)
  in_map g (x ∷ l) (here e) = (x, here refl, e)
  in_map g (x ∷ l) (there m) = let k = in_map g l m in (k.0, there k.1, k.2)
  in_map g [] {y = y} x' = elim x' [ ]

  pub map_in : (g : A → B) {x : A} {l : List A} → In x l → In (g x) (map g l)
  map_in g (here e) = here (ap g e)
  map_in g (there m) = there (map_in g m)

  pub in_flat : (g : A → List B) (l : List A) {y : B} → In y (flat_map g l) → (x : A) × In x l × In y (g x)
  unfolding flat_map
  in_flat g (x ∷ l) {y} m = go (Memᴰ.append_cases (g x) m) (in_flat g l)
    where
      go : In y (g x) ⊎ In y (flat_map g l) → (In y (flat_map g l) → (z : A) × In z l × In y (g z)) → (z : A) × In z (x ∷ l) × In y (g z)
      go (inl n) ih = (x, here refl, n)
      go (inr n) ih = let k = ih n in (k.0, there k.1, k.2)
  in_flat g [] {y = y} m = elim m [ ]

  pub flat_in : (g : A → List B) {x : A} {l : List A} {y : B} → In x l → In y (g x) → In y (flat_map g l)
  unfolding flat_map
  flat_in g {y = y} (here {xs = l} e) m = Memᴰ.append_left (flat_map g l) (rw (ap g e) at m)
  flat_in g (there {x = x} n) m = Memᴰ.append_right (g x) (flat_in g n m)
