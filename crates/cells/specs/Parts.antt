-- The parts of a text between separators, and what a cell says (document 02, W-201).
-- Assumes nothing.
use Rattle.std.specs.Prelude.{ℕ, suc, Bool, true, false, cond, List, [], ◌∷◌, eqb, ltb, length, drop, Option, Some, None}
use Rattle.lists.specs.Lists.{keep}

-- The bytes that part a text: a comma between cells, a line feed behind a line (02, W-201).
abbrev pub comma : ℕ
comma = 44

abbrev pub feed : ℕ
feed = 10

-- A part of a text: its number among the parts, its offset, its bytes.
pub record Part : Type 0 where
  pub number : ℕ
  pub at : ℕ
  pub bytes : List ℕ

abbrev pub part : ℕ → ℕ → List ℕ → Part
part n at bytes = record { number = n; at = at; bytes = bytes }

-- the first of some parts with one byte more at its front
unfoldable pub longer : ℕ → ℕ → ℕ → List Part → List Part
longer n at b [] = part n at (b ∷ []) ∷ []
longer n at b (p ∷ ps) = part n at (b ∷ p.bytes) ∷ ps

-- The parts of a text between the bytes c, numbered from n on, where the text begins at an offset: one more than there are such bytes (02, W-201,
-- "separated by commas").
unfoldable pub parts : ℕ → ℕ → ℕ → List ℕ → List Part
parts c n at [] = part n at [] ∷ []
parts c n at (b ∷ t) = cond (eqb b c) (part n at [] ∷ parts c (suc n) (suc at) t) (longer n at b (parts c n (suc at) t))

-- The cells of a line (02, W-201, "separated by commas").
abbrev pub cells_of : Part → List Part
cells_of l = parts comma 0 l.at l.bytes

-- The lines of a text from an offset on, the first of them numbered n (02, W-201, "Every line ends in a line feed"): a line begins where a byte is
-- left, so that a last line feed begins none.
unfoldable pub lines_from : List ℕ → ℕ → ℕ → List Part
lines_from bs n at = keep (λ l. ltb l.at (length bs)) (parts feed n at (drop at bs))

-- What a kind cell says: w is a write, r a read (02, W-201, "Kind cells are w or r"), o the opening (02, W-207).
unfoldable pub kind_of : List ℕ → Option ℕ
kind_of [] = None
kind_of (b ∷ []) = cond (eqb b 119) (Some 1) (cond (eqb b 114) (Some 2) (cond (eqb b 111) (Some 3) None))
kind_of (b ∷ d ∷ t) = None

-- Two texts are the same, byte for byte (02, W-201: names).
unfoldable pub same : List ℕ → List ℕ → Bool
same [] [] = true
same [] (y ∷ ys) = false
same (x ∷ xs) [] = false
same (x ∷ xs) (y ∷ ys) = cond (eqb x y) (same xs ys) false
