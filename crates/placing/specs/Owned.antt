-- What the placing of a write and of what is left of its reads says (000, figure 2, lines 19 and 20).
-- Assumes nothing.
use Rattle.std.specs.Prelude.{ℕ, ◌<◌, ◌≡◌, Bool, not, List, ◌∷◌, ◌++◌, length}
use Rattle.positions.specs.Places.{upto, and}
use Rattle.positions.specs.Columns.{mine, read_of}
use Rattle.placing.specs.States.{State, is_free, laid}
use Rattle.placing.specs.Added.{Added}

-- j is a read of w that is not placed
abbrev pub Mine : List ℕ → ℕ → State → ℕ → Bool
Mine writer w s = and (is_free s.placed) (read_of writer w)

-- THE CONTRACT of that placing: w, then those reads rising, then what was laid; and nothing of w is left
pub record Owned (writer : List ℕ) (w : ℕ) (s r : State) : Type 0 where
  pub added : Added s r
  pub high : r.at < s.at
  pub top : r.top ≡ s.top
  pub order : laid r ≡ w ∷ (upto (Mine writer w s) (length writer) ++ laid s)
  pub free : (j : ℕ) → j < length writer → is_free r.placed j ≡ and (is_free s.placed) (λ i. not (mine writer w i)) j
