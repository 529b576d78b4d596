-- What is added to a state by a scan, a step, a trial or a walk, and what a trial that fails leaves of it (02, W-202).
-- Assumes nothing.
use Rattle.std.specs.Prelude.{ℕ, ◌+◌, ◌<◌, ◌≡◌, true, length, drop, set}
use mathlib.Core.List.{List, [], ◌∷◌, ◌++◌, Memᴰ as In}
use Rattle.placing.specs.States.{State, is_free, laid}

-- the marks with v at each of the listed positions
unfoldable pub marks_with : ℕ → List ℕ → List ℕ → List ℕ
marks_with v p [] = p
marks_with v p (j ∷ l) = set (marks_with v p l) j v

-- r is s with the operations `ops` added: they were free, they alone are marked, and they stand in front of what was laid
pub record Added (s r : State) : Type 0 where
  pub ops : List ℕ
  pub inside : (j : ℕ) → In j ops → j < length s.placed
  pub free : (j : ℕ) → In j ops → is_free s.placed j ≡ true
  pub marked : r.placed ≡ marks_with 1 s.placed ops
  pub cells : length r.order ≡ length s.order
  pub place : r.at + length ops ≡ s.at
  pub lays : ops ++ laid s ≡ laid r

-- every mark is as it was in s, and so is what was laid
pub record Kept (s : State) (placed order : List ℕ) : Type 0 where
  pub marks : placed ≡ s.placed
  pub cells : length order ≡ length s.order
  pub lays : drop s.at order ≡ laid s
