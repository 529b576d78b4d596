-- What is printed of a file or a log, from its loading.
-- Assumes nothing.
use Prim.Native.Nat.{ℕ, ◌*◌, ◌≤◌}
use mathlib.Core.Path.{◌≡◌, refl, sym, ap, ◌∙◌}
use mathlib.Core.Logic.{◌≢◌}
use mathlib.Core.Bool.{Bool, true, false, cond}
use mathlib.Core.List.{List, [], ◌∷◌}
use native.Mathlib.Omega.{arith}
use lib.Dec.{eqb}
use lib.ListN.{length, take, length-append}
use borrow.Author.Tests.{eq-eqb, ne_eqb}
use Rattle.history.specs.declared.Answer.{Answer}
use Rattle.text.specs.Decimal.{line}
use Rattle.text.proofs.Joins.{line_length}
use Rattle.records.specs.Records.{table_of}
use Rattle.files.specs.Files.{file_answer, read_answer, read_table}
use Rattle.files.proofs.Loading.{table_whole, loaded_few, loaded_front}
use Rattle.printing.specs.Texts.{refused_word, refused_line, loaded_text, text_answer, text_after, Printed}
use Rattle.printing.specs.Files.{file_text, TableOf}

-- the answer a of a loading, which is b, and a text that was printed
module _ (text out : List ℕ) (a b : Answer) (e : a ≡ b) (r : Answer) (after : List ℕ) where
  -- the line of the refusal
  pub loading_refused : a.code ≢ 0 → Printed (refused_line a) out r after → Printed (loaded_text b text) out r after
  unfolding loaded_text
  loading_refused n p =
      let w = ne_eqb b.code 0 (λ z. n (ap (λ x. x.code) e ∙ z)) in
      (p.0 ∙ ap (λ x. text_answer (refused_line x) out) e ∙ sym (rw w refl), p.1 ∙ ap (λ x. text_after (refused_line x) out) e ∙ sym (rw w refl))

  -- the text of what was loaded
  pub loading_printed : a.code ≡ 0 → Printed text out r after → Printed (loaded_text b text) out r after
  unfolding loaded_text
  loading_printed z p =
      let w = eq-eqb b.code 0 (sym (ap (λ x. x.code) e) ∙ z) in
      (p.0 ∙ sym (rw w refl), p.1 ∙ sym (rw w refl))

-- what was read stands at the front of the table
pub table_loaded : (bytes table : List ℕ) (a : Answer) (loaded : List ℕ) → (a ≡ read_answer bytes table) × (loaded ≡ read_table bytes table) → a.code ≡ 0
    → TableOf bytes (take (a.rows * 5) loaded)
table_loaded bytes table a loaded o z =
    let front = loaded_front bytes table a loaded o z in
    record { is = front; whole = rw front (table_whole bytes); few = rw front (loaded_few bytes table a loaded o z) }

-- a line of a refusal: a word and two numbers
refused_bound : (a : Answer) → length (refused_line a) ≤ 51
unfolding refused_line
refused_bound a = omega (arith, length-append refused_word (line (a.code ∷ a.row ∷ [])), line_length (a.code ∷ a.row ∷ []))

-- the text of a file is no longer than a bound of the texts of all tables, where the bound is at least 51
pub text_bound : (bytes : List ℕ) (text : List ℕ → List ℕ) (n : ℕ) → 51 ≤ n → ((t : List ℕ) → length (text t) ≤ n) → length (file_text bytes text) ≤ n
unfolding loaded_text
text_bound bytes text n few long = go (eqb (file_answer bytes).code 0)
  where
    go : (b : Bool) → length (cond b (text (table_of bytes)) (refused_line (file_answer bytes))) ≤ n
    go true = long (table_of bytes)
    go false = omega (arith, few, refused_bound (file_answer bytes))
