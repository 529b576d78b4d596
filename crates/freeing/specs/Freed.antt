-- A state in which some clusters alone are to be placed.
-- Assumes nothing.
use Rattle.std.specs.Prelude.{ℕ, ◌≤◌, ◌<◌, ◌≡◌, true, false, not, List, length, get_or}
use Rattle.positions.specs.Places.{upto}
use Rattle.placing.specs.States.{State, is_free}
use Rattle.freeing.specs.Marks.{unlisted}

-- none of n operations is to be placed
abbrev pub Shut : ℕ → List ℕ → Type 0
Shut n placed = (j : ℕ) → j < n → is_free placed j ≡ false

-- nothing but the clusters of the listed writes is to be placed
abbrev pub Within : List ℕ → List ℕ → List ℕ → Type 0
Within writer list placed = (j : ℕ) → j < length writer → is_free placed j ≡ true → unlisted list (get_or writer j 0) ≡ false

-- nothing from top on is of the clusters of the listed writes
abbrev pub Topped : List ℕ → List ℕ → ℕ → Type 0
Topped writer list top = (j : ℕ) → j < length writer → top ≤ j → unlisted list (get_or writer j 0) ≡ true

-- the operations of the clusters of the listed writes, by position
abbrev pub clusters_of : List ℕ → List ℕ → List ℕ
clusters_of writer list = upto (λ j. not (unlisted list (get_or writer j 0))) (length writer)

-- nothing is laid, and the clusters of the listed writes, all of them, are to be placed
pub record Freed (writer list : List ℕ) (s : State) : Type 0 where
  pub marks : length writer ≤ length s.placed
  pub cells : length writer ≤ length s.order
  pub at : s.at ≡ length s.order
  pub low : s.top ≤ length writer
  pub topped : Topped writer list s.top
  pub free : (j : ℕ) → j < length writer → is_free s.placed j ≡ not (unlisted list (get_or writer j 0))
