-- The smallest and the largest key of a list's elements, begun with a number (for document 01, "Doubled stamps" and "Zones").
-- Assumes nothing.
use Rattle.std.specs.Prelude.{ℕ, min, max, List, [], ◌∷◌}

module _ {A : Type 0} (key : A → ℕ) where
  -- the smallest of m and the keys
  unfoldable pub least : ℕ → List A → ℕ
  least m [] = m
  least m (x ∷ l) = min (key x) (least m l)

  -- the largest of m and the keys
  unfoldable pub greatest : ℕ → List A → ℕ
  greatest m [] = m
  greatest m (x ∷ l) = max (key x) (greatest m l)
