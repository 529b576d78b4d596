-- Clock texts, by computation (document 02, W-205).
-- Assumes nothing.
use Prim.Native.Nat.{ℕ}
use mathlib.Core.Path.{◌≡◌, refl}
use mathlib.Core.List.{List, [], ◌∷◌, map}
use Rattle.lists.specs.Lists.{all}
use Rattle.text.specs.Decimal.{digits, decimal}
use Rattle.std.specs.Prelude.{Some, None}
use Rattle.parsing.specs.Numbers.{is_digit, worth, held, says, number_of, number_in}
use Rattle.clock.specs.Clock.{clock_of, leading_zero, days_in, field_in, with_field, said_at, clock_in}

-- 0:00:00:00.000; 0:00:00:00.999; 0:00:00:01.000; 0:23:59:59.999; 1:00:00:00.000; 53375995583:15:36:27.903
unfoldable pub texts : List (List ℕ)
texts =
    (48 ∷ 58 ∷ 48 ∷ 48 ∷ 58 ∷ 48 ∷ 48 ∷ 58 ∷ 48 ∷ 48 ∷ 46 ∷ 48 ∷ 48 ∷ 48 ∷ [])
    ∷ (48 ∷ 58 ∷ 48 ∷ 48 ∷ 58 ∷ 48 ∷ 48 ∷ 58 ∷ 48 ∷ 48 ∷ 46 ∷ 57 ∷ 57 ∷ 57 ∷ [])
    ∷ (48 ∷ 58 ∷ 48 ∷ 48 ∷ 58 ∷ 48 ∷ 48 ∷ 58 ∷ 48 ∷ 49 ∷ 46 ∷ 48 ∷ 48 ∷ 48 ∷ [])
    ∷ (48 ∷ 58 ∷ 50 ∷ 51 ∷ 58 ∷ 53 ∷ 57 ∷ 58 ∷ 53 ∷ 57 ∷ 46 ∷ 57 ∷ 57 ∷ 57 ∷ [])
    ∷ (49 ∷ 58 ∷ 48 ∷ 48 ∷ 58 ∷ 48 ∷ 48 ∷ 58 ∷ 48 ∷ 48 ∷ 46 ∷ 48 ∷ 48 ∷ 48 ∷ [])
    ∷ (53 ∷ 51 ∷ 51 ∷ 55 ∷ 53 ∷ 57 ∷ 57 ∷ 53 ∷ 53 ∷ 56 ∷ 51 ∷ 58 ∷ 49 ∷ 53 ∷ 58 ∷ 51 ∷ 54 ∷ 58 ∷ 50 ∷ 55 ∷ 46 ∷ 57 ∷ 48 ∷ 51 ∷ [])
    ∷ []

-- their stamps: the first and the last, and where seconds and days begin
abbrev stamps : List ℕ
stamps = 0 ∷ 999 ∷ 1000 ∷ 86399999 ∷ 86400000 ∷ 4611686018427387903 ∷ []

pub written : map clock_of stamps ≡ texts
unfolding texts clock_of decimal digits
written = refl

pub read : map clock_in texts ≡ map (λ s. Some s) stamps
unfolding texts clock_in said_at with_field field_in days_in leading_zero number_in number_of says held worth is_digit all
read = refl

-- texts that are no clock text
unfoldable pub others : List (List ℕ)
others =
    -- nothing; a decimal number
    []
    ∷ (56 ∷ 54 ∷ 52 ∷ 48 ∷ 48 ∷ 48 ∷ 48 ∷ 48 ∷ [])
    -- an hour, a minute and a second out of range by one; a thousandth over the largest stamp
    ∷ (48 ∷ 58 ∷ 50 ∷ 52 ∷ 58 ∷ 48 ∷ 48 ∷ 58 ∷ 48 ∷ 48 ∷ 46 ∷ 48 ∷ 48 ∷ 48 ∷ [])
    ∷ (48 ∷ 58 ∷ 48 ∷ 48 ∷ 58 ∷ 54 ∷ 48 ∷ 58 ∷ 48 ∷ 48 ∷ 46 ∷ 48 ∷ 48 ∷ 48 ∷ [])
    ∷ (48 ∷ 58 ∷ 48 ∷ 48 ∷ 58 ∷ 48 ∷ 48 ∷ 58 ∷ 54 ∷ 48 ∷ 46 ∷ 48 ∷ 48 ∷ 48 ∷ [])
    ∷ (53 ∷ 51 ∷ 51 ∷ 55 ∷ 53 ∷ 57 ∷ 57 ∷ 53 ∷ 53 ∷ 56 ∷ 51 ∷ 58 ∷ 49 ∷ 53 ∷ 58 ∷ 51 ∷ 54 ∷ 58 ∷ 50 ∷ 55 ∷ 46 ∷ 57 ∷ 48 ∷ 52 ∷ [])
    -- leading zeros; days over 64 bits
    ∷ (48 ∷ 48 ∷ 58 ∷ 48 ∷ 48 ∷ 58 ∷ 48 ∷ 48 ∷ 58 ∷ 48 ∷ 48 ∷ 46 ∷ 48 ∷ 48 ∷ 48 ∷ [])
    ∷ (48 ∷ 49 ∷ 58 ∷ 48 ∷ 48 ∷ 58 ∷ 48 ∷ 48 ∷ 58 ∷ 48 ∷ 48 ∷ 46 ∷ 48 ∷ 48 ∷ 48 ∷ [])
    ∷ (49 ∷ 48 ∷ 48 ∷ 48 ∷ 48 ∷ 48 ∷ 48 ∷ 48 ∷ 48 ∷ 48 ∷ 48 ∷ 48 ∷ 48 ∷ 48 ∷ 48 ∷ 48 ∷ 48 ∷ 48 ∷ 48 ∷ 48 ∷ 48 ∷ 58 ∷ 48 ∷ 48 ∷ 58 ∷ 48 ∷ 48 ∷ 58 ∷ 48 ∷ 48 ∷ 46 ∷ 48 ∷ 48 ∷ 48 ∷ [])
    -- a digit too few in each part, and too many in the last
    ∷ (48 ∷ 58 ∷ 48 ∷ 58 ∷ 48 ∷ 48 ∷ 58 ∷ 48 ∷ 48 ∷ 46 ∷ 48 ∷ 48 ∷ 48 ∷ [])
    ∷ (48 ∷ 58 ∷ 48 ∷ 48 ∷ 58 ∷ 48 ∷ 58 ∷ 48 ∷ 48 ∷ 46 ∷ 48 ∷ 48 ∷ 48 ∷ [])
    ∷ (48 ∷ 58 ∷ 48 ∷ 48 ∷ 58 ∷ 48 ∷ 48 ∷ 58 ∷ 48 ∷ 46 ∷ 48 ∷ 48 ∷ 48 ∷ [])
    ∷ (48 ∷ 58 ∷ 48 ∷ 48 ∷ 58 ∷ 48 ∷ 48 ∷ 58 ∷ 48 ∷ 48 ∷ 46 ∷ 48 ∷ 48 ∷ [])
    ∷ (48 ∷ 58 ∷ 48 ∷ 48 ∷ 58 ∷ 48 ∷ 48 ∷ 58 ∷ 48 ∷ 48 ∷ 46 ∷ 48 ∷ 48 ∷ 48 ∷ 48 ∷ [])
    -- an empty part; a part less; a further part
    ∷ (58 ∷ 48 ∷ 48 ∷ 58 ∷ 48 ∷ 48 ∷ 58 ∷ 48 ∷ 48 ∷ 46 ∷ 48 ∷ 48 ∷ 48 ∷ [])
    ∷ (48 ∷ 58 ∷ 58 ∷ 48 ∷ 48 ∷ 58 ∷ 48 ∷ 48 ∷ 46 ∷ 48 ∷ 48 ∷ 48 ∷ [])
    ∷ (48 ∷ 58 ∷ 48 ∷ 48 ∷ 58 ∷ 48 ∷ 48 ∷ 58 ∷ 48 ∷ 48 ∷ 46 ∷ [])
    ∷ (48 ∷ 48 ∷ 58 ∷ 48 ∷ 48 ∷ 58 ∷ 48 ∷ 48 ∷ 46 ∷ 48 ∷ 48 ∷ 48 ∷ [])
    ∷ (48 ∷ 58 ∷ 48 ∷ 48 ∷ 58 ∷ 48 ∷ 48 ∷ 58 ∷ 48 ∷ 48 ∷ 58 ∷ 48 ∷ 48 ∷ 46 ∷ 48 ∷ 48 ∷ 48 ∷ [])
    ∷ (48 ∷ 58 ∷ 48 ∷ 48 ∷ 58 ∷ 48 ∷ 48 ∷ 58 ∷ 48 ∷ 48 ∷ 46 ∷ 48 ∷ 48 ∷ 48 ∷ 46 ∷ 48 ∷ 48 ∷ 48 ∷ [])
    -- other bytes
    ∷ (48 ∷ 58 ∷ 48 ∷ 48 ∷ 58 ∷ 48 ∷ 48 ∷ 58 ∷ 48 ∷ 48 ∷ 58 ∷ 48 ∷ 48 ∷ 48 ∷ [])
    ∷ (48 ∷ 58 ∷ 48 ∷ 48 ∷ 58 ∷ 48 ∷ 48 ∷ 58 ∷ 48 ∷ 48 ∷ 44 ∷ 48 ∷ 48 ∷ 48 ∷ [])
    ∷ (32 ∷ 48 ∷ 58 ∷ 48 ∷ 48 ∷ 58 ∷ 48 ∷ 48 ∷ 58 ∷ 48 ∷ 48 ∷ 46 ∷ 48 ∷ 48 ∷ 48 ∷ [])
    ∷ (48 ∷ 58 ∷ 43 ∷ 49 ∷ 58 ∷ 48 ∷ 48 ∷ 58 ∷ 48 ∷ 48 ∷ 46 ∷ 48 ∷ 48 ∷ 48 ∷ [])
    ∷ []

pub refused : map clock_in others ≡ map (λ t. None) others
unfolding others clock_in said_at with_field field_in days_in leading_zero number_in number_of says held worth is_digit all
refused = refl
