-- Histories with an opening (document 02, W-207): one table, and one theorem.
-- Assumes nothing.
use Prim.Native.Nat.{ℕ}
use mathlib.Core.Path.{◌≡◌, refl}
use mathlib.Core.List.{List, [], ◌∷◌, ◌++◌, map}
use Rattle.methods.proofs.Calls.{W, R, a, b, c, marks, checks, Case, case, gives, lent, run}

-- an opening with the value v
abbrev pub O : ℕ → List ℕ
O value = 7 ∷ 3 ∷ value ∷ 0 ∷ 0 ∷ []

-- The opening is read before a write ends, after one write, and after two.
abbrev beside : List ℕ
beside = O a ++ W b 1 5 ++ R a 3 4

abbrev after_one : List ℕ
after_one = O a ++ W b 1 2 ++ R a 3 4

abbrev after_two : List ℕ
after_two = O a ++ W b 1 2 ++ W c 3 4 ++ R a 5 6

-- The opening stands behind rows that start at 0: by start alone it would come last.
abbrev behind : List ℕ
behind = W b 0 2 ++ R a 0 1 ++ O a

-- All stamps are 0: the opening precedes the other two, which are concurrent.
abbrev at_zero : List ℕ
at_zero = R a 0 0 ++ W b 0 0 ++ O a

-- The backward zone of b, from stamp 0, lies inside the opening's, as the read of a finds b written: by the stamps alone it would not.
abbrev inside_opening : List ℕ
inside_opening = W b 0 1 ++ R a 2 3 ++ O a

unfoldable pub openings : List Case
openings =
    case (marks (O a) 1 9 lent) (gives 0 0 1 0 (0 ∷ 91 ∷ 92 ∷ 93 ∷ 94 ∷ 95 ∷ 96 ∷ []))
    ∷ case (marks (O a) 2 9 lent) (gives 0 0 1 1 (0 ∷ 91 ∷ 92 ∷ 93 ∷ 94 ∷ 95 ∷ 96 ∷ []))
    ∷ case (marks (O a) 3 9 lent) (gives 0 0 1 0 (0 ∷ 91 ∷ 92 ∷ 93 ∷ 94 ∷ 95 ∷ 96 ∷ []))
    ∷ case (marks beside 1 9 lent) (gives 0 0 3 0 (0 ∷ 2 ∷ 1 ∷ 93 ∷ 94 ∷ 95 ∷ 96 ∷ []))
    ∷ case (marks after_one 1 9 lent) (gives 12 0 3 0 lent)
    ∷ case (marks after_one 2 9 lent) (gives 0 0 3 1 (0 ∷ 1 ∷ 2 ∷ 93 ∷ 94 ∷ 95 ∷ 96 ∷ []))
    ∷ case (marks after_one 3 9 lent) (gives 0 0 3 0 (0 ∷ 1 ∷ 2 ∷ 93 ∷ 94 ∷ 95 ∷ 96 ∷ []))
    ∷ case (marks after_two 1 9 lent) (gives 12 0 4 0 lent)
    ∷ case (marks after_two 2 9 lent) (gives 12 0 4 1 lent)
    ∷ case (marks after_two 3 9 lent) (gives 12 0 4 0 lent)
    ∷ case (marks behind 1 9 lent) (gives 0 0 3 0 (2 ∷ 1 ∷ 0 ∷ 93 ∷ 94 ∷ 95 ∷ 96 ∷ []))
    ∷ case (marks behind 2 9 lent) (gives 0 0 3 2 (2 ∷ 1 ∷ 0 ∷ 93 ∷ 94 ∷ 95 ∷ 96 ∷ []))
    ∷ case (marks behind 3 9 lent) (gives 0 0 3 0 (2 ∷ 1 ∷ 0 ∷ 93 ∷ 94 ∷ 95 ∷ 96 ∷ []))
    ∷ case (marks at_zero 1 9 lent) (gives 0 0 3 0 (2 ∷ 0 ∷ 1 ∷ 93 ∷ 94 ∷ 95 ∷ 96 ∷ []))
    ∷ case (marks inside_opening 1 9 lent) (gives 12 0 3 0 lent)
    ∷ case (marks inside_opening 2 9 lent) (gives 0 0 3 1 (2 ∷ 0 ∷ 1 ∷ 93 ∷ 94 ∷ 95 ∷ 96 ∷ []))
    ∷ case (marks inside_opening 3 9 lent) (gives 0 0 3 0 (2 ∷ 0 ∷ 1 ∷ 93 ∷ 94 ∷ 95 ∷ 96 ∷ []))
    -- refusals: 5 before 20, and 20 before 7; a kind that is none of the three; a value that the opening wrote
    ∷ case (marks (7 ∷ 3 ∷ a ∷ 0 ∷ 1 ∷ []) 1 9 lent) (gives 5 0 0 0 lent)
    ∷ case (marks (O a ++ O b ++ 7 ∷ 3 ∷ c ∷ 1 ∷ 1 ∷ []) 1 9 lent) (gives 5 2 0 0 lent)
    ∷ case (marks (O a ++ W a 1 2 ++ O b ++ O c) 1 9 lent) (gives 20 2 0 0 lent)
    ∷ case (marks (O a ++ 7 ∷ 4 ∷ b ∷ 0 ∷ 0 ∷ []) 1 9 lent) (gives 4 1 0 0 lent)
    ∷ case (marks (O a ++ W a 1 2) 1 9 lent) (gives 7 1 0 0 lent)
    ∷ case (marks (W a 0 0 ++ O a) 1 9 lent) (gives 7 1 0 0 lent)
    ∷ case (marks (O a ++ R b 0 0) 1 9 lent) (gives 8 1 0 0 lent)
    -- the order check: an order in which the opening is not first is a 14; its reads are held to k as any
    ∷ case (checks behind 1 (2 ∷ 1 ∷ 0 ∷ [])) (gives 0 0 3 0 (2 ∷ 1 ∷ 0 ∷ []))
    ∷ case (checks behind 1 (1 ∷ 2 ∷ 0 ∷ [])) (gives 14 1 0 0 (1 ∷ 2 ∷ 0 ∷ []))
    ∷ case (checks at_zero 1 (1 ∷ 0 ∷ 2 ∷ [])) (gives 14 2 0 0 (1 ∷ 0 ∷ 2 ∷ []))
    ∷ case (checks at_zero 1 (2 ∷ 1 ∷ 0 ∷ [])) (gives 15 2 0 0 (2 ∷ 1 ∷ 0 ∷ []))
    ∷ case (checks at_zero 2 (2 ∷ 1 ∷ 0 ∷ [])) (gives 0 0 3 0 (2 ∷ 1 ∷ 0 ∷ []))
    ∷ case (checks after_two 2 (0 ∷ 1 ∷ 2 ∷ 3 ∷ [])) (gives 15 3 0 0 (0 ∷ 1 ∷ 2 ∷ 3 ∷ []))
    ∷ case (checks after_two 3 (0 ∷ 1 ∷ 2 ∷ 3 ∷ [])) (gives 0 0 4 0 (0 ∷ 1 ∷ 2 ∷ 3 ∷ []))
    ∷ []

pub openings_hold : map (λ e. run e.call) openings ≡ map (λ e. e.outcome) openings
unfolding run openings
openings_hold = refl
