-- The decision of 1-atomicity from the numbers of a zone list alone, in one pass (document 02, W-206: the marker uses the list for question 1).
-- Assumes nothing.
use Rattle.std.specs.Prelude.{ℕ, ◌+◌, ◌*◌, Bool, true, false, cond, List, [], ◌∷◌, ltb, eqb, get_or}
use Rattle.lists.specs.Lists.{up_to}

-- the i-th write of the list is shown as forward
abbrev pub ahead_at : List ℕ → ℕ → Bool
ahead_at list i = eqb (get_or list (i * 4 + 1) 0) 1

-- its smallest finish: the low end of a forward zone, the high end of a backward one
unfoldable pub finish_at : List ℕ → ℕ → ℕ
finish_at list i = cond (ahead_at list i) (get_or list (i * 4 + 2) 0) (get_or list (i * 4 + 3) 0)

-- the largest start of the last forward zone, where `bound` is that of the zones before
unfoldable pub reached_at : List ℕ → ℕ → ℕ → ℕ
reached_at list bound i = cond (ahead_at list i) (get_or list (i * 4 + 3) 0) bound

-- no smallest finish is below the largest start of the last forward zone before it
unfoldable pub passes_at : List ℕ → ℕ → List ℕ → Bool
passes_at list bound [] = true
passes_at list bound (i ∷ l) = cond (ltb (finish_at list i) bound) false (passes_at list (reached_at list bound i) l)

-- what the list of n writes decides
unfoldable pub decides : List ℕ → ℕ → Bool
decides list n = passes_at list 0 (up_to n)
