-- Numbers as decimal text: the digits of one, a line of several, lines one after the other (document 01, "Files, program, C host": "Numbers are
-- printed in decimal, every line ends in a line feed").
-- Assumes nothing.
use Rattle.std.specs.Prelude.{ℕ, zero, suc, ◌+◌, ◌/◌, ◌%◌, cond, List, [], ◌∷◌, ◌++◌, ltb, take, drop}

-- the last decimal digit of n, as a byte
abbrev pub digit : ℕ → ℕ
digit n = 48 + n % 10

-- the decimal digits of n, the most significant first; of more than f, the last f
unfoldable pub digits : ℕ → ℕ → List ℕ
digits zero n = []
digits (suc f) n = cond (ltb n 10) (digit n ∷ []) (digits f (n / 10) ++ (digit n ∷ []))

-- a number of 64 bits in decimal: it has at most twenty digits
unfoldable pub decimal : ℕ → List ℕ
decimal n = digits 20 n

-- numbers in decimal, each behind a comma
unfoldable pub behind : List ℕ → List ℕ
behind [] = []
behind (x ∷ l) = 44 ∷ (decimal x ++ behind l)

-- numbers in decimal, with commas between them
unfoldable pub joined : List ℕ → List ℕ
joined [] = []
joined (x ∷ l) = decimal x ++ behind l

-- the same, ended by a line feed
unfoldable pub line : List ℕ → List ℕ
line l = joined l ++ (10 ∷ [])

-- k lines of w numbers each
unfoldable pub lines_of : ℕ → ℕ → List ℕ → List ℕ
lines_of w zero l = []
lines_of w (suc k) l = line (take w l) ++ lines_of w k (drop w l)
