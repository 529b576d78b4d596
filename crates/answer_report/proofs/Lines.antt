-- The numbers of a line, the text that they make, and what its codes say.
-- Assumes nothing.
use Prim.Native.Nat.{ℕ, suc, ◌+◌, ◌≤◌}
use mathlib.Core.Path.{◌≡◌, refl, sym, ap, ap₂, ◌∙◌}
use mathlib.Core.Bool.{Bool, true, false, cond}
use mathlib.Core.List.{List, [], ◌∷◌, ◌++◌, flat_map}
use native.Mathlib.Omega.{arith}
use lib.ListN.{length, set, drop, length-append}
use lib.Seq.{sets}
use Rattle.history.specs.declared.Answer.{Answer}
use Rattle.history.specs.Table.{largest_count, row_count}
use Rattle.history.specs.Answer.{numbers, refused}
use Rattle.history.specs.declared.Code.TheVariants.{NoSuchQuestion}
use Rattle.methods.specs.Mark.{no_question, written}
use Rattle.text.specs.Decimal.{line, lines_of}
use Rattle.text.proofs.Joins.{line_length, lines_length}
use Rattle.printing.specs.Texts.{refused_word, refused_line}
use Rattle.printing.proofs.Lines.{lines_front}
use Rattle.marks.specs.Marks.{answer_to}
use Rattle.marks.proofs.Saying.{answer_said}
use Rattle.grouping.specs.Registers.{registers}
use Rattle.grouping.proofs.Ascending.{registers_few}
use Rattle.roads.specs.Answers.{fields}
use Rattle.answer_report.specs.Text.{header, line_of, numbers_of, answers_text, Meant}

pub line_long : (t : List ℕ) (question allowance register : ℕ) → length (line_of t question allowance register) ≡ 5
unfolding line_of fields
line_long t question allowance register = refl

-- the register stored, and behind it the fields of its answer
pub line_stored : (t : List ℕ) (question allowance register at : ℕ) (list next : List ℕ) (one : Answer) → one ≡ answer_to t register question allowance →
    next ≡ sets (set list at register) (at + 1) (numbers one) → next ≡ sets list at (line_of t question allowance register)
unfolding line_of fields
line_stored t question allowance register at list next one e n =
    let p : at + 1 ≡ suc at = omega arith in n ∙ rw (p, e) refl

pub meant : (t : List ℕ) (question allowance : ℕ) → Meant t question allowance
meant t question allowance register f = answer_said t register question allowance f

module _ (t : List ℕ) (question allowance : ℕ) where
  -- THE TEXT, from the numbers of its lines
  pub text_is : no_question question ≡ false → (m : ℕ) (found list₀ list : List ℕ) → (m ≡ length (registers t)) × (found ≡ registers t) →
      list ≡ written (flat_map (line_of t question allowance) found) list₀ → header ++ lines_of 5 m list ≡ answers_text question allowance t
  unfolding answers_text
  text_is asked m found list₀ list e s =
      ap (λ (x : List ℕ). header ++ x) (
      ap₂ (lines_of 5) e.0 (s ∙ ap (λ (x : List ℕ). written (flat_map f x) list₀) e.1)
      ∙ lines_front f 5 (line_long t question allowance) (registers t) (drop (length (flat_map f (registers t))) list₀)
      )
      ∙ sym (rw asked refl)
    where
      f : ℕ → List ℕ
      f = line_of t question allowance

  -- a question that is refused has its line
  pub text_refused : no_question question ≡ true → refused_line (refused NoSuchQuestion 0) ≡ answers_text question allowance t
  unfolding answers_text
  text_refused n = sym (rw n refl)

-- a text has at most 106 bytes for each of 1,024 registers, behind its header; that of a refusal is shorter
pub text_bound : (t : List ℕ) (question allowance : ℕ) → row_count t ≤ largest_count → length (answers_text question allowance t) ≤ 108574
unfolding answers_text refused_line
text_bound t question allowance f = go (no_question question)
  where
    lines : List ℕ
    lines = lines_of 5 (length (registers t)) (numbers_of t question allowance (registers t))

    go : (b : Bool) → length (cond b (refused_line (refused NoSuchQuestion 0)) (header ++ lines)) ≤ 108574
    go true = omega (arith, length-append refused_word (line (3 ∷ 0 ∷ [])), line_length (3 ∷ 0 ∷ []))
    go false = omega (arith, f, length-append header lines, lines_length 5 (length (registers t)) (numbers_of t question allowance (registers t)), registers_few t)
