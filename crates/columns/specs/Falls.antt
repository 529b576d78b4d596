-- The writes by falling finish, from two columns.
-- Assumes nothing.
use Rattle.std.specs.Prelude.{ℕ, ◌+◌, ◌≡◌, Bool, List, leb, length, get_or}
use Rattle.lists.specs.Sorts.{sort}
use Rattle.positions.specs.Places.{upto}
use Rattle.positions.specs.Columns.{is_own}

-- i finishes no sooner than j
abbrev pub no_sooner : List ℕ → ℕ → ℕ → Bool
no_sooner finish i j = leb (get_or finish j 0) (get_or finish i 0)

-- the writes by falling finish
unfoldable pub falling_of : List ℕ → List ℕ → List ℕ
falling_of finish writer = sort (no_sooner finish) (upto (is_own writer) (length writer))

-- k is a key of x that falls as the finish rises: what the largest number exceeds the finish by
abbrev pub Turned : List ℕ → ℕ → ℕ → Type 0
Turned finish x k = k + get_or finish x 0 ≡ 18446744073709551615
