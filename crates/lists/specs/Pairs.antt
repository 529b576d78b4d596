-- A relation between each element of a list and every later one.
-- Assumes nothing.
use mathlib.Core.List.{List, [], ◌∷◌, Memᴰ as In}

module _ {A : Type 0} where
  -- each element stands in R to every later one
  pub data Pairs (R : A → A → Type 0) : List A → Type 0 where
    nil : Pairs R []
    cons : {x : A} {l : List A} → ((y : A) → In y l → R x y) → Pairs R l → Pairs R (x ∷ l)
