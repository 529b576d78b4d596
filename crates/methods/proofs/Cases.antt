-- The histories with known marks that are proved of the definitions (document 01, C1 to C10): one table, and one theorem.
-- Assumes nothing.
use Prim.Native.Nat.{ℕ}
use mathlib.Core.Path.{◌≡◌, refl}
use mathlib.Core.List.{List, [], ◌∷◌, ◌++◌, map}
use Rattle.methods.proofs.Calls.{W, R, a, b, c, marks, checks, Case, case, gives, lent, run}

-- the tables; C9 and C10 are checks of orders of C2
abbrev pub C1 : List ℕ
C1 = []

abbrev pub C2 : List ℕ
C2 = W a 1 2 ++ W b 3 4 ++ R a 5 6

abbrev pub C3 : List ℕ
C3 = W a 1 2 ++ W b 3 4 ++ W c 5 6 ++ R a 7 8

abbrev pub C4 : List ℕ
C4 = W a 1 4 ++ R a 10 12 ++ W b 3 6

abbrev pub C5 : List ℕ
C5 = W a 1 10 ++ W b 2 12 ++ W c 3 9 ++ R a 13 14 ++ R c 15 16

abbrev pub C6 : List ℕ
C6 = W a 1 4 ++ W b 2 5 ++ W c 3 6 ++ R a 7 8 ++ R b 9 10 ++ R c 11 12

abbrev pub C7 : List ℕ
C7 = W a 5 9 ++ R a 2 6

abbrev pub C8 : List ℕ
C8 = W a 5 9 ++ R a 2 4

unfoldable pub cases : List Case
cases =
    case (marks C1 1 9 lent) (gives 0 0 0 0 lent)
    ∷ case (marks C1 2 0 lent) (gives 0 0 0 0 lent)
    ∷ case (marks C1 3 9 lent) (gives 0 0 0 0 lent)
    ∷ case (marks C2 1 9 lent) (gives 12 0 3 0 lent)
    ∷ case (marks C2 2 9 lent) (gives 0 0 3 1 (0 ∷ 1 ∷ 2 ∷ 93 ∷ 94 ∷ 95 ∷ 96 ∷ []))
    ∷ case (marks C2 3 9 lent) (gives 0 0 3 0 (0 ∷ 1 ∷ 2 ∷ 93 ∷ 94 ∷ 95 ∷ 96 ∷ []))
    ∷ case (marks C3 1 9 lent) (gives 12 0 4 0 lent)
    ∷ case (marks C3 2 9 lent) (gives 12 0 4 1 lent)
    ∷ case (marks C3 3 9 lent) (gives 12 0 4 0 lent)
    ∷ case (marks C4 1 9 lent) (gives 0 0 3 0 (2 ∷ 0 ∷ 1 ∷ 93 ∷ 94 ∷ 95 ∷ 96 ∷ []))
    ∷ case (marks C4 2 9 lent) (gives 0 0 3 1 (0 ∷ 2 ∷ 1 ∷ 93 ∷ 94 ∷ 95 ∷ 96 ∷ []))
    ∷ case (marks C4 3 9 lent) (gives 0 0 3 0 (2 ∷ 0 ∷ 1 ∷ 93 ∷ 94 ∷ 95 ∷ 96 ∷ []))
    ∷ case (marks C5 2 3 lent) (gives 0 0 5 3 (1 ∷ 2 ∷ 0 ∷ 3 ∷ 4 ∷ 95 ∷ 96 ∷ []))
    ∷ case (marks C5 2 2 lent) (gives 11 0 0 2 lent)
    ∷ case (marks C6 1 9 lent) (gives 12 0 6 0 lent)
    ∷ case (marks C6 2 9 lent) (gives 12 0 6 3 lent)
    ∷ case (marks C6 3 9 lent) (gives 12 0 6 0 lent)
    ∷ case (marks C7 1 9 lent) (gives 0 0 2 0 (0 ∷ 1 ∷ 92 ∷ 93 ∷ 94 ∷ 95 ∷ 96 ∷ []))
    ∷ case (marks C7 2 9 lent) (gives 0 0 2 1 (0 ∷ 1 ∷ 92 ∷ 93 ∷ 94 ∷ 95 ∷ 96 ∷ []))
    ∷ case (marks C7 3 9 lent) (gives 0 0 2 0 (0 ∷ 1 ∷ 92 ∷ 93 ∷ 94 ∷ 95 ∷ 96 ∷ []))
    ∷ case (marks C8 1 9 lent) (gives 9 1 0 0 lent)
    ∷ case (marks C8 2 9 lent) (gives 9 1 0 0 lent)
    ∷ case (marks C8 3 9 lent) (gives 9 1 0 0 lent)
    ∷ case (checks C2 1 (0 ∷ 1 ∷ 2 ∷ [])) (gives 15 2 0 0 (0 ∷ 1 ∷ 2 ∷ []))
    ∷ case (checks C2 1 (1 ∷ 0 ∷ 2 ∷ [])) (gives 14 1 0 0 (1 ∷ 0 ∷ 2 ∷ []))
    ∷ case (checks C2 2 (1 ∷ 0 ∷ 2 ∷ [])) (gives 14 1 0 0 (1 ∷ 0 ∷ 2 ∷ []))
    ∷ []

-- Every call of the table has the outcome that the table says: antt computes it.
pub cases_hold : map (λ e. run e.call) cases ≡ map (λ e. e.outcome) cases
unfolding run cases
cases_hold = refl
