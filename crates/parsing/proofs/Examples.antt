-- Worked examples, by computation.
-- Assumes nothing.
use mathlib.Core.Path.{◌≡◌, refl}
use mathlib.Core.List.{[], ◌∷◌}
use Rattle.lists.specs.Lists.{all}
use Rattle.parsing.specs.Numbers.{is_digit, worth, held, says, number_of, number_in, front, after, is_number, before, sound, leading, lines_in, numbers, no_list}
use Rattle.std.specs.Prelude.{Some, None}

-- "", "0", "007", 2 ^ 64 - 1, 2 ^ 64, "1a"; twenty digits with leading zeros, and twenty-one
pub said : (number_in [] ≡ None)
    × (number_in (48 ∷ []) ≡ Some 0)
    × (number_in (48 ∷ 48 ∷ 55 ∷ []) ≡ Some 7)
    × (number_in (49 ∷ 56 ∷ 52 ∷ 52 ∷ 54 ∷ 55 ∷ 52 ∷ 52 ∷ 48 ∷ 55 ∷ 51 ∷ 55 ∷ 48 ∷ 57 ∷ 53 ∷ 53 ∷ 49 ∷ 54 ∷ 49 ∷ 53 ∷ []) ≡ Some 18446744073709551615)
    × (number_in (49 ∷ 56 ∷ 52 ∷ 52 ∷ 54 ∷ 55 ∷ 52 ∷ 52 ∷ 48 ∷ 55 ∷ 51 ∷ 55 ∷ 48 ∷ 57 ∷ 53 ∷ 53 ∷ 49 ∷ 54 ∷ 49 ∷ 54 ∷ []) ≡ None)
    × (number_in (49 ∷ 97 ∷ []) ≡ None)
    × (number_in (48 ∷ 48 ∷ 48 ∷ 48 ∷ 48 ∷ 48 ∷ 48 ∷ 48 ∷ 48 ∷ 48 ∷ 48 ∷ 48 ∷ 48 ∷ 48 ∷ 48 ∷ 48 ∷ 48 ∷ 48 ∷ 48 ∷ 53 ∷ []) ≡ Some 5)
    × (number_in (48 ∷ 48 ∷ 48 ∷ 48 ∷ 48 ∷ 48 ∷ 48 ∷ 48 ∷ 48 ∷ 48 ∷ 48 ∷ 48 ∷ 48 ∷ 48 ∷ 48 ∷ 48 ∷ 48 ∷ 48 ∷ 48 ∷ 48 ∷ 53 ∷ []) ≡ None)
unfolding number_in number_of says all is_digit worth held
said = (refl, refl, refl, refl, refl, refl, refl, refl)

-- "", "1\n", "1\n2", "\n", "1\n\n2", and "1\nx" with room for two numbers and for one
pub listed : (lines_in 2 [] ≡ numbers [])
    × (lines_in 2 (49 ∷ 10 ∷ []) ≡ numbers (1 ∷ []))
    × (lines_in 2 (49 ∷ 10 ∷ 50 ∷ []) ≡ numbers (1 ∷ 2 ∷ []))
    × (lines_in 2 (10 ∷ []) ≡ no_list)
    × (lines_in 3 (49 ∷ 10 ∷ 10 ∷ 50 ∷ []) ≡ no_list)
    × (lines_in 2 (49 ∷ 10 ∷ 120 ∷ []) ≡ no_list)
    × (lines_in 1 (49 ∷ 10 ∷ 120 ∷ []) ≡ numbers (1 ∷ []))
unfolding lines_in sound leading is_number before front after number_in number_of says all is_digit worth held
listed = (refl, refl, refl, refl, refl, refl, refl)
