-- A text at the front of a lent buffer, and the line of a refused file (document 01, "Files, program, C host").
-- Assumes nothing.
use Rattle.std.specs.Prelude.{ℕ, cond, List, [], ◌∷◌, ◌++◌, ◌≡◌, ltb, eqb, length, drop}
use Rattle.history.specs.declared.Answer.{Answer}
use Rattle.history.specs.Answer.{number, refused, passed}
use Rattle.history.specs.declared.Code.TheVariants.{Fresh, ShortList}
use Rattle.text.specs.Decimal.{line}

-- a text written: its length in the rows field, and the text at the front of the buffer, the rest untouched; or 10 and the buffer as it was (01's table)
unfoldable pub text_answer : List ℕ → List ℕ → Answer
text_answer text out = cond (ltb (length out) (length text)) (refused ShortList 0) (passed (length text))

unfoldable pub text_after : List ℕ → List ℕ → List ℕ
text_after text out = cond (ltb (length out) (length text)) out (text ++ drop (length text) out)

-- the answer and the buffer after a call that writes a text
abbrev pub Printed : List ℕ → List ℕ → Answer → List ℕ → Type 0
Printed text out answer after = (answer ≡ text_answer text out) × (after ≡ text_after text out)

-- "refused," in ASCII, and the line of a refused file: its code and its offset
abbrev pub refused_word : List ℕ
refused_word = 114 ∷ 101 ∷ 102 ∷ 117 ∷ 115 ∷ 101 ∷ 100 ∷ 44 ∷ []

unfoldable pub refused_line : Answer → List ℕ
refused_line a = refused_word ++ line (a.code ∷ a.row ∷ [])

-- what is printed of a file or a log, by the answer of its loading: a text where it was loaded, else the line of the refusal
unfoldable pub loaded_text : Answer → List ℕ → List ℕ
loaded_text a text = cond (eqb a.code (number Fresh)) text (refused_line a)
