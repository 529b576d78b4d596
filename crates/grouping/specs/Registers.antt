-- The registers of a table, ascending (document 01, "Files, program, C host").
-- Assumes nothing.
use Rattle.std.specs.Prelude.{ℕ, cond, List, [], ◌∷◌, map, eqb, leb}
use Rattle.lists.specs.Lists.{up_to}
use Rattle.lists.specs.Sorts.{sort}
use Rattle.history.specs.Table.{cell, row_count}

-- what follows x in a rising list, each number once
unfoldable pub others : ℕ → List ℕ → List ℕ
others x [] = []
others x (y ∷ l) = cond (eqb y x) (others x l) (y ∷ others y l)

-- each number of a rising list, once
unfoldable pub distinct : List ℕ → List ℕ
distinct [] = []
distinct (x ∷ l) = x ∷ others x l

-- the register of each row
unfoldable pub register_at : List ℕ → ℕ → ℕ
register_at t i = cell t i 0

abbrev pub register_column : List ℕ → List ℕ
register_column t = map (register_at t) (up_to (row_count t))

-- the registers, ascending, each once (01, "Files, program, C host")
unfoldable pub registers : List ℕ → List ℕ
registers t = distinct (sort leb (register_column t))
