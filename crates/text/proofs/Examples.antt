-- Worked examples, by computation.
-- Assumes nothing.
use mathlib.Core.Path.{◌≡◌, refl}
use mathlib.Core.List.{[], ◌∷◌}
use Rattle.text.specs.Decimal.{digits, decimal, behind, joined, line, lines_of}

-- 0, 7, 10 and 2 ^ 64 - 1; the line "3,10"; the lines "1", "2"
pub printed : (decimal 0 ≡ 48 ∷ [])
    × (decimal 7 ≡ 55 ∷ [])
    × (decimal 10 ≡ 49 ∷ 48 ∷ [])
    × (decimal 18446744073709551615 ≡ 49 ∷ 56 ∷ 52 ∷ 52 ∷ 54 ∷ 55 ∷ 52 ∷ 52 ∷ 48 ∷ 55 ∷ 51 ∷ 55 ∷ 48 ∷ 57 ∷ 53 ∷ 53 ∷ 49 ∷ 54 ∷ 49 ∷ 53 ∷ [])
    × (line (3 ∷ 10 ∷ []) ≡ 51 ∷ 44 ∷ 49 ∷ 48 ∷ 10 ∷ [])
    × (lines_of 1 2 (1 ∷ 2 ∷ []) ≡ 49 ∷ 10 ∷ 50 ∷ 10 ∷ [])
unfolding decimal digits behind joined line lines_of
printed = (refl, refl, refl, refl, refl, refl)
