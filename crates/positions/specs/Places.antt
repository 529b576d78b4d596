-- Positions in a list of columns: those at which a test holds, and the last of them.
-- Assumes nothing.
use Rattle.std.specs.Prelude.{ℕ, zero, suc, ◌<◌, Bool, true, false, cond, ◌≢◌, List, [], ◌∷◌, ◌++◌, length, get_or}

abbrev pub pick_list : Bool → List ℕ → List ℕ → List ℕ
pick_list true a b = a
pick_list false a b = b

-- the positions below n at which P holds, rising
unfoldable pub upto : (ℕ → Bool) → ℕ → List ℕ
upto P zero = []
upto P (suc n) = pick_list (P n) (upto P n ++ (n ∷ [])) (upto P n)

-- both tests hold
abbrev pub and : (ℕ → Bool) → (ℕ → Bool) → ℕ → Bool
and P Q j = cond (P j) (Q j) false

-- one more than the last position below i at which Q holds, 0 where there is none
unfoldable pub latest : (ℕ → Bool) → ℕ → ℕ
latest Q zero = 0
latest Q (suc i) = cond (Q i) (suc i) (latest Q i)

-- two positions; and a list has each once
abbrev pub Unlike : ℕ → ℕ → Type 0
Unlike x y = x ≢ y

abbrev pub Once : List ℕ → Type 0
Once list = (i j : ℕ) → i < j → j < length list → get_or list j 0 ≢ get_or list i 0
