-- Texts of cells: the lines of a grid, the cells of a line laid out, and rearranged (document 02, W-201).
-- Assumes nothing.
use Rattle.std.specs.Prelude.{ℕ, suc, ◌+◌, ◌≡◌, false, eqb, length, get_or}
use mathlib.Core.List.{List, [], ◌∷◌, ◌++◌, map, Memᴰ as In}
use Rattle.cells.specs.Parts.{comma, feed, Part, part}

-- A line's cells as text, with a comma between them (02, W-201, "separated by commas").
unfoldable pub joined : List (List ℕ) → List ℕ
joined [] = []
joined (c ∷ []) = c
joined (c ∷ d ∷ cs) = c ++ (comma ∷ joined (d ∷ cs))

-- The text of a grid: its lines, each with a line feed behind it (02, W-201, "Every line ends in a line feed").
unfoldable pub text_of : List (List (List ℕ)) → List ℕ
text_of [] = []
text_of (r ∷ rs) = joined r ++ (feed ∷ text_of rs)

-- the cells' bytes
abbrev pub bytes_of : List Part → List (List ℕ)
bytes_of ps = map (λ p. p.bytes) ps

-- A line's cells rearranged: those at the places that an order lists (02, W-201, "column-shuffled").
abbrev pub rearranged : List ℕ → List (List ℕ) → List (List ℕ)
rearranged order cs = map (λ k. get_or cs k []) order

-- Cells laid out as the parts of their line: numbered from k on, the first at an offset, each behind the one before.
unfoldable pub laid : ℕ → ℕ → List (List ℕ) → List Part
laid k at [] = []
laid k at (c ∷ cs) = part k at c ∷ laid (suc k) (suc (at + length c)) cs

-- No byte of a text is c.
abbrev pub Free : ℕ → List ℕ → Type 0
Free c [] = Unit {0}
Free c (b ∷ t) = (eqb b c ≡ false) × Free c t

-- No byte of a line's cells is c.
abbrev pub AllFree : ℕ → List (List ℕ) → Type 0
AllFree c cs = (x : List ℕ) → In x cs → Free c x
