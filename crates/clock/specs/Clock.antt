-- Stamps as clock time, days:hh:mm:ss.mmm: the text of a stamp, the stamp of a text, and the writing call (document 02, W-205).
-- Assumes nothing.
use Rattle.std.specs.Prelude.{ℕ, ◌+◌, ◌-◌, ◌*◌, ◌/◌, ◌%◌, ◌≤◌, ◌≡◌, ◌↔◌, Bool, false, cond, List, [], ◌∷◌, ◌++◌, eqb, ltb, length, take, drop, Option, Some, None}
use Rattle.history.specs.declared.Answer.{Answer}
use Rattle.history.specs.Table.{largest_stamp}
use Rattle.history.specs.Answer.{Test, test, if_so, first_met, passed}
use Rattle.history.specs.declared.Code.TheVariants.{BadSpan}
use Rattle.files.specs.Files.{room_test, after}
use Rattle.text.specs.Decimal.{digit, decimal}
use Rattle.parsing.specs.Numbers.{number_of, number_in, is_number}

-- What stands before hours, minutes and seconds, and before thousandths (02, W-205, "days:hh:mm:ss.mmm").
abbrev pub colon : ℕ
colon = 58

abbrev pub point : ℕ
point = 46

-- a number in two digits, and in three
abbrev pub two : ℕ → List ℕ
two n = digit (n / 10) ∷ digit n ∷ []

abbrev pub three : ℕ → List ℕ
three n = digit (n / 100) ∷ two n

-- What stands behind the days of a stamp, always thirteen bytes (02, W-205, "hh:mm:ss.mmm"; "Our stamp is the count of thousandths").
abbrev pub time_of : ℕ → List ℕ
time_of s =
    (colon ∷ two (s / 3600000 % 24)) ++ ((colon ∷ two (s / 60000 % 60)) ++ ((colon ∷ two (s / 1000 % 60)) ++ (point ∷ three (s % 1000))))

-- The clock text of a stamp (02, W-205, "days:hh:mm:ss.mmm").
unfoldable pub clock_of : ℕ → List ℕ
clock_of s = decimal (s / 86400000) ++ time_of s

-- several digits, the first of them a 0
unfoldable pub leading_zero : List ℕ → Bool
leading_zero [] = false
leading_zero (c ∷ []) = false
leading_zero (c ∷ d ∷ t) = eqb c 48

-- What days say (02, W-205, "days decimal without leading zeros (0 itself allowed)"). Days of more than twenty digits are over the largest stamp.
unfoldable pub days_in : List ℕ → Option ℕ
days_in t = cond (leading_zero t) None (number_in t)

-- what a field says that begins with a given byte
unfoldable pub field_in : ℕ → List ℕ → Option ℕ
field_in begin [] = None
field_in begin (c ∷ t) = cond (eqb c begin) (number_of t) None

-- A count with a field behind it, of whose unit `limit` make one of the count's: both in the field's unit. Nothing where the field reaches the limit
-- (02, W-205, "Hours are 00 to 23, minutes and seconds 00 to 59") or the sum is over the largest stamp, as it then is in every smaller unit.
unfoldable pub with_field : ℕ → Option ℕ → Option ℕ → Option ℕ
with_field limit None x = None
with_field limit (Some v) None = None
with_field limit (Some v) (Some x) = cond (ltb x limit) (cond (ltb largest_stamp (v * limit + x)) None (Some (v * limit + x))) None

-- the bytes from i on, w of them
abbrev pub slice : ℕ → ℕ → List ℕ → List ℕ
slice i w t = take w (drop i t)

-- what a text says whose days end at n
unfoldable pub said_at : ℕ → List ℕ → Option ℕ
said_at n t =
    with_field 1000
    (with_field 60
    (with_field 60 (with_field 24 (days_in (take n t)) (field_in colon (slice n 3 t))) (field_in colon (slice (n + 3) 3 t)))
    (field_in colon (slice (n + 6) 3 t)))
    (field_in point (slice (n + 9) 4 t))

-- The stamp that a clock text says; nothing where it is outside the ranges or over the largest stamp (02, W-205, "is a 19").
unfoldable pub clock_in : List ℕ → Option ℕ
clock_in t = said_at (length t - 13) t

-- A stamp was read out of a text exactly when it is at most the largest and the text is its clock text (02, W-205, "outside these ranges or over the
-- largest stamp").
abbrev pub SaysExactly : List ℕ → Option ℕ → Type 0
SaysExactly t read = (s : ℕ) → (read ≡ Some s) ↔ ((s ≤ largest_stamp) × (t ≡ clock_of s))

-- What a start or finish cell says (02, W-205, "Loading takes either form"; "decimal cells keep their rule").
unfoldable pub stamp_in : List ℕ → Option ℕ
stamp_in t = cond (is_number (number_of t)) (number_of t) (clock_in t)

-- Writing a stamp into a text of some places (02, W-205, "Writing gives 5 (row 0) for a larger stamp, then 10; rows is the text's length").
unfoldable pub write_tests : ℕ → ℕ → List Test
write_tests s room = test BadSpan (if_so (ltb largest_stamp s)) ∷ room_test (length (clock_of s)) room ∷ []

unfoldable pub write_answer : ℕ → List ℕ → Answer
write_answer s text = first_met (write_tests s (length text)) (passed (length (clock_of s)))

unfoldable pub write_text : ℕ → List ℕ → List ℕ
write_text s text = after (write_answer s text) (clock_of s) text

-- A call's answer and the text after it are those of the writing.
abbrev pub Writes : ℕ → List ℕ → Answer → List ℕ → Type 0
Writes s text answer left = (answer ≡ write_answer s text) × (left ≡ write_text s text)

-- What was written reads as the stamp, in at most 24 bytes, and so much room is enough for every stamp (02, W-205, "every stamp up to 2^62 − 1 can be
-- written as clock text").
pub record WritesStamp (s : ℕ) (text : List ℕ) (answer : Answer) (left : List ℕ) : Type 0 where
  pub short : answer.rows ≤ 24
  pub back : answer.code ≡ 0 → clock_in (take answer.rows left) ≡ Some s
  pub every : s ≤ largest_stamp → 24 ≤ length text → answer.code ≡ 0
