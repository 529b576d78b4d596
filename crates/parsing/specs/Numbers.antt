-- Numbers read out of decimal text: one, as an argument of a program, and a list of them, one a line, as in an order file.
-- Assumes nothing.
use Rattle.std.specs.Prelude.{ℕ, zero, suc, ◌+◌, ◌-◌, ◌*◌, ◌^◌, Bool, true, false, cond, List, [], ◌∷◌, ◌++◌, eqb, ltb, leb, length, drop, Option, Some, None}
use Rattle.lists.specs.Lists.{all}

-- a decimal digit as a byte
unfoldable pub is_digit : ℕ → Bool
is_digit c = cond (ltb c 48) false (leb c 57)

-- what digits are worth behind a number v
unfoldable pub worth : ℕ → List ℕ → ℕ
worth v [] = v
worth v (c ∷ t) = worth (v * 10 + (c - 48)) t

-- a number that 64 bits hold
unfoldable pub held : ℕ → Option ℕ
held v = cond (ltb v (2 ^ 64)) (Some v) None

-- what bytes say behind a number v
unfoldable pub says : ℕ → List ℕ → Option ℕ
says v t = cond (all is_digit t) (held (worth v t)) None

-- a text of one or more digits, worth at most 2 ^ 64 - 1 (02, W-201, "one or more decimal digits")
unfoldable pub number_of : List ℕ → Option ℕ
number_of t = cond (ltb (length t) 1) None (says 0 t)

-- such a text of at most twenty digits
unfoldable pub number_in : List ℕ → Option ℕ
number_in t = cond (ltb 20 (length t)) None (number_of t)

-- the bytes before the first line feed
unfoldable pub front : List ℕ → List ℕ
front [] = []
front (c ∷ t) = cond (eqb c 10) [] (c ∷ front t)

-- the bytes behind the first line feed
unfoldable pub after : List ℕ → List ℕ
after t = drop (length (front t) + 1) t

-- whether a line is a number
unfoldable pub is_number : Option ℕ → Bool
is_number (Some x) = true
is_number None = false

-- a number goes before those of the later lines; another line ends them
unfoldable pub before : Option ℕ → List ℕ → List ℕ
before (Some x) l = x ∷ l
before None l = []

-- each of the first k lines is a number
unfoldable pub sound : ℕ → List ℕ → Bool
sound zero t = true
sound (suc k) [] = true
sound (suc k) (c ∷ t) = cond (is_number (number_in (front (c ∷ t)))) (sound k (after (c ∷ t))) false

-- the numbers of the first k lines, up to the first line that is none
unfoldable pub leading : ℕ → List ℕ → List ℕ
leading zero t = []
leading (suc k) [] = []
leading (suc k) (c ∷ t) = before (number_in (front (c ∷ t))) (leading k (after (c ∷ t)))

-- what a text holds, one number a line
pub data Lines : Type 0 where
  numbers : List ℕ → Lines
  no_list : Lines

-- the first k lines of a text: their numbers, or that one of them is no number
unfoldable pub lines_in : ℕ → List ℕ → Lines
lines_in k t = cond (sound k t) (numbers (leading k t)) no_list

-- what the reading answers
unfoldable pub counted : Lines → Option ℕ
counted (numbers l) = Some (length l)
counted no_list = None

-- a list after the reading: the numbers at its front, or as it was
unfoldable pub stored : Lines → List ℕ → List ℕ
stored (numbers l) old = l ++ drop (length l) old
stored no_list old = old
