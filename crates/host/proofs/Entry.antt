-- The code for each way through the entry.
-- Assumes nothing.
use Prim.Native.Nat.{ℕ}
use mathlib.Core.Path.{◌≡◌, refl, sym, ap, ◌∙◌}
use mathlib.Core.Logic.{◌≢◌}
use mathlib.Core.List.{List}
use native.Mathlib.Omega.{arith}
use borrow.Author.Tests.{eq-eqb, ne_eqb}
use Rattle.history.specs.declared.Answer.{Answer}
use Rattle.records.specs.Records.{table_of}
use Rattle.files.specs.Files.{Whole, file_answer}
use Rattle.files.proofs.Passing.{whole_answer}
use Rattle.files.proofs.Undo.{file_fits}
use Rattle.marks.specs.Marks.{answer_to, most_trials}
use Rattle.marks.proofs.Saying.{answer_said, never_ten}
use Rattle.selection.specs.Selected.{register_table, find_answer}
use Rattle.selection.proofs.Selecting.{found_refused}
use Rattle.compact.proofs.Tables.{compact_code}
use Rattle.host.specs.Host.{host_code, Given}

module _ (bytes : List ℕ) (register question : ℕ) where
  -- the file is refused
  pub entry_refused : (a : Answer) → a ≡ find_answer bytes register → a.code ≢ 0 → Given bytes register question a.code
  unfolding host_code
  entry_refused a e n =
      let f = found_refused bytes register a e n in
      let code : a.code ≡ (file_answer bytes).code = ap (λ x. x.code) f.1 in
      (code ∙ sym (rw (ne_eqb (file_answer bytes).code 0 f.0) refl), (λ z. absurd (f.0 z), λ y. file_fits bytes (sym code ∙ y)))

  -- the register is marked
  pub entry_marked : Whole bytes → (t : List ℕ) → t ≡ register_table bytes register → (m : Answer) → m ≡ answer_to t register question most_trials → Given bytes register question m.code
  unfolding host_code
  entry_marked w t same m p =
      let passes = ap (λ x. x.code) (whole_answer bytes w) in
      let code : m.code ≡ (answer_to (table_of bytes) register question most_trials).code =
      ap (λ x. x.code) p ∙ ap (λ x. (answer_to x register question most_trials).code) same ∙ sym (compact_code bytes register w question) in (
        code ∙ sym (rw (eq-eqb (file_answer bytes).code 0 passes) refl),
        (λ y. rw code (answer_said (table_of bytes) register question most_trials (λ q. omega arith)), λ y. never_ten (table_of bytes) register question most_trials (sym code ∙ y)),
      )
