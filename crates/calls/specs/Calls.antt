-- What the exported calls leave: the answer's four numbers in a lent slice, and where a text is read, the answer that tells of it.
-- Assumes nothing.
use Rattle.std.specs.Prelude.{ℕ, ◌≡◌, List, Option, Some, None}
use Rattle.history.specs.declared.Answer.{Answer}
use Rattle.history.specs.Answer.{refused_by, passed, list_after}
use Rattle.printing.specs.Texts.{text_answer}

-- the lent slice before and after the answer is put at its front
abbrev pub Says : Answer → List ℕ → List ℕ → Type 0
Says answer before after = after ≡ list_after answer before

-- the same of a text that is put at the front of a buffer
abbrev pub Prints : List ℕ → List ℕ → List ℕ → List ℕ → Type 0
Prints text out before after = Says (text_answer text out) before after

-- an answer from its four numbers
abbrev pub answer_of : ℕ → ℕ → ℕ → ℕ → Answer
answer_of code row rows trials = record { code = code; row = row; rows = rows; trials = trials }

-- a number, or a count of numbers, as an answer: code 0 and the number in the rows field, or code 1
unfoldable pub number_answer : Option ℕ → Answer
number_answer (Some x) = passed x
number_answer None = refused_by 1 0
