-- The marks of whole clusters (document 01, "FZF": a chunk's operations are placed apart from the others).
-- Assumes nothing.
use Rattle.std.specs.Prelude.{ℕ, ◌≤◌, ◌<◌, ◌≡◌, Bool, not, cond, length, get_or, eqb}
use mathlib.Core.List.{List, Memᴰ as In}
use Rattle.lists.specs.Lists.{all}
use Rattle.positions.specs.Columns.{mine}

-- j is not listed
abbrev pub unlisted : List ℕ → ℕ → Bool
unlisted l j = all (λ w. not (eqb j w)) l

-- the listed are writes
abbrev pub Writes : List ℕ → List ℕ → Type 0
Writes writer list = (w : ℕ) → In w list → (w < length writer) × (get_or writer w 0 ≡ w)

-- the cluster of w has the mark m, and the others theirs
abbrev pub Dyed : List ℕ → ℕ → ℕ → List ℕ → List ℕ → Type 0
Dyed writer w m old marks = (j : ℕ) → j < length writer → get_or marks j 0 ≡ cond (mine writer w j) m (get_or old j 0)

-- the clusters of the listed have the mark m, and the others theirs
abbrev pub Painted : List ℕ → List ℕ → ℕ → List ℕ → List ℕ → Type 0
Painted writer list m old marks = (j : ℕ) → j < length writer → get_or marks j 0 ≡ cond (unlisted list (get_or writer j 0)) (get_or old j 0) m

-- r is above the listed writes and their last reads, and no higher than it must be
pub record Above (last list : List ℕ) (top r : ℕ) : Type 0 where
  pub bound : top ≤ r
  pub each : (w : ℕ) → In w list → (w < r) × (get_or last w 0 ≤ r)
  pub least : (n : ℕ) → top ≤ n → ((w : ℕ) → In w list → (w < n) × (get_or last w 0 ≤ n)) → r ≤ n
