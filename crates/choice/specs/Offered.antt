-- The orders that figure 4 lists for a chunk, by position (document 01, "FZF"): t are the writes of its forward clusters and b those of its
-- backward ones, both by low end.
-- Assumes nothing.
use Rattle.std.specs.Prelude.{ℕ, ◌+◌, ◌≤◌, Bool, true, false, not, List, [], ◌∷◌, ◌++◌, map, length, slice_get, Option, Some, None}
use Rattle.history.specs.Table.{largest_count}
use Rattle.lists.specs.Pairs.{Pairs}
use Rattle.history.specs.declared.Op.{Op}
use Rattle.methods.specs.Zones.{Decision}
use Rattle.methods.specs.Fzf.{first_viable, listed}
use Rattle.positions.specs.Places.{Unlike}
use Rattle.positions.specs.Columns.{Cols, size, ops}
use Rattle.freeing.specs.Marks.{Writes}
use Rattle.freeing.specs.Freed.{Within, Topped}

-- a list of positions, last first
unfoldable pub backward : List ℕ → List ℕ
backward [] = []
backward (x ∷ l) = backward l ++ (x ∷ [])

-- a list with its first two swapped, or as it is
unfoldable pub swap_if : Bool → List ℕ → List ℕ
swap_if false l = l
swap_if true [] = []
swap_if true (x ∷ []) = x ∷ []
swap_if true (x ∷ (y ∷ l)) = y ∷ (x ∷ l)

-- the first of a list, or the second, if there is one
unfoldable pub end_at : List ℕ → Bool → Option ℕ
end_at l true = slice_get l 0
end_at l false = slice_get l 1

-- the list of a write, if there is one
unfoldable pub one_of : Option ℕ → List ℕ
one_of None = []
one_of (Some w) = w ∷ []

-- an order of figure 4: one backward write in front and one behind, flipped or not, and the forward ones swapped or not
unfoldable pub offer : List ℕ → List ℕ → Bool → Bool → List ℕ
offer t b flip swap = one_of (end_at b (not flip)) ++ (swap_if swap t ++ one_of (end_at b flip))

-- the orders with the forward writes swapped, or not: with no backward write there is nothing to flip
unfoldable pub offers : List ℕ → List ℕ → Bool → List (List ℕ)
offers t [] swap = offer t [] false swap ∷ []
offers t (w ∷ b) swap = offer t (w ∷ b) false swap ∷ (offer t (w ∷ b) true swap ∷ [])

-- what the caller shows of a chunk: its writes, each once, and lent places for all
pub record Shown (C : Cols) (t b turn placed cells : List ℕ) : Type 0 where
  pub small : size C ≤ largest_count
  pub writes : Writes C.writer (t ++ b)
  pub apart : Pairs Unlike (t ++ b)
  pub turns : length t + length b ≤ length turn
  pub marks : size C ≤ length placed
  pub sized : size C ≤ length cells

-- and that nothing else is to be placed, and nothing of it from top on
pub record Offered (C : Cols) (t b turn placed cells : List ℕ) (top : ℕ) : Type 0 where
  pub chunk : Shown C t b turn placed cells
  pub within : Within C.writer (t ++ b) placed
  pub low : top ≤ length C.writer
  pub topped : Topped C.writer (t ++ b) top

-- what the definition says of some orders, and of all those of figure 4, over the positions K
abbrev pub tried_by : List (List ℕ) → List ℕ → List Op → Decision
tried_by orders K H = first_viable (map (ops H) orders) (ops H K)

abbrev pub chosen_by : List ℕ → List ℕ → List ℕ → List Op → Decision
chosen_by t b K H = first_viable (listed (ops H t) (ops H b)) (ops H K)
