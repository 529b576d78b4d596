-- The first write of each value, as it is left at the first holder of the value.
-- Assumes nothing.
use Rattle.std.specs.Prelude.{ℕ, ◌+◌, ◌<◌, ◌≡◌, List, length, get_or}
use Rattle.writers.specs.Writers.{writer_of}

-- a slot holds how many rows there are from the first write on
pub record Marked (t rows firsts slots : List ℕ) : Type 0 where
  pub wide : length slots ≡ length rows
  pub all : (j : ℕ) → j < length rows → get_or slots (get_or firsts j 0) 0 + writer_of t rows (get_or rows j 0) ≡ length rows
