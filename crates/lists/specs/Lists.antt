-- Lists, with tests that compute: the elements that pass, whether some or all pass, the first that passes, the numbers from one on.
-- Assumes nothing.
use Rattle.std.specs.Prelude.{ℕ, zero, suc, Bool, true, false, cond, ◌||◌, List, [], ◌∷◌, Option, Some, None}

-- 1 for what holds, 0 for what does not: what it adds to a count
abbrev pub one_if : Bool → ℕ
one_if true = 1
one_if false = 0

-- n numbers from i on: i, i + 1, ..
unfoldable pub from : ℕ → ℕ → List ℕ
from i zero = []
from i (suc n) = i ∷ from (suc i) n

-- the numbers below n, rising
abbrev pub up_to : ℕ → List ℕ
up_to n = from 0 n

module _ {A : Type 0} where
  unfoldable pub put : Bool → A → List A → List A
  put true x l = x ∷ l
  put false x l = l

  -- the elements that pass the test p, in their sequence
  unfoldable pub keep : (A → Bool) → List A → List A
  keep p [] = []
  keep p (x ∷ l) = put (p x) x (keep p l)

  -- each element passes
  unfoldable pub all : (A → Bool) → List A → Bool
  all p [] = true
  all p (x ∷ l) = cond (p x) (all p l) false

  -- some element passes
  unfoldable pub any : (A → Bool) → List A → Bool
  any p [] = false
  any p (x ∷ l) = p x || any p l

  -- where the first element that passes stands, by its key
  unfoldable pub first : (A → ℕ) → (A → Bool) → List A → Option ℕ
  first key p [] = None
  first key p (x ∷ l) = cond (p x) (Some (key x)) (first key p l)
