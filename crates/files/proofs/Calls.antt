-- What the two calls answer and leave in the lent list, from what their steps find.
-- Assumes nothing.
use Prim.Native.Nat.{ℕ, ◌*◌}
use mathlib.Core.Path.{◌≡◌, refl, sym, ap, ◌∙◌}
use mathlib.Core.Logic.{◌≢◌}
use mathlib.Core.List.{List, [], ◌∷◌, ◌++◌}
use borrow.Author.Tests.{eq-eqb, ne_eqb}
use lib.ListN.{length, drop}
use Rattle.history.specs.declared.Answer.{Answer}
use Rattle.history.specs.Answer.{first_met, passed}
use Rattle.records.specs.Records.{begun}
use Rattle.files.specs.Files.{Whole, file_answer, file_tests, room_test, after, read_tests, read_answer}
use Rattle.history.proofs.Refusals.{met_stop, met_on}
use Rattle.files.proofs.Passing.{file_coded, code_whole, whole_answer}

-- the lent list, by the answer's code
pub after_refused : (a : Answer) (result old : List ℕ) → a.code ≢ 0 → after a result old ≡ old
after_refused a result old n = rw (ne_eqb a.code 0 n)

pub after_fresh : (a : Answer) (result old : List ℕ) → a.code ≡ 0 → after a result old ≡ result ++ drop (length result) old
after_fresh a result old z = rw (eq-eqb a.code 0 z)

-- an answer's code goes with the answer
pub code_of : {a b : Answer} → a ≡ b → b.code ≡ 0 → a.code ≡ 0
code_of e z = ap (λ (a : Answer). a.code) e ∙ z

module _ (bs table : List ℕ) (found : Answer) (e : found ≡ file_answer bs) where
  -- a record's refusal is the answer
  pub read_refused : found.code ≢ 0 → found ≡ read_answer bs table
  unfolding read_answer read_tests
  read_refused n = e ∙ sym (met_stop (file_tests bs) (room_test (begun bs * 5) (length table) ∷ []) (passed (begun bs)) refl (λ z. n (code_of e z)))

  -- a file that passed: what it is, and the count of its rows
  pub read_passed : found.code ≡ 0 → Whole bs × (found.rows ≡ begun bs)
  read_passed z = let w = code_whole bs (code_of (sym e) z) in (w, ap (λ (a : Answer). a.rows) (e ∙ whole_answer bs w))

  -- else the test of the room has the last word
  pub read_judged : found.code ≡ 0 → (answer : Answer) (rows : ℕ) → rows ≡ begun bs → answer ≡ first_met (room_test (rows * 5) (length table) ∷ []) (passed rows) →
      answer ≡ read_answer bs table
  unfolding read_answer read_tests
  read_judged z answer rows n h =
      h
      ∙ ap (λ (k : ℕ). first_met (room_test (k * 5) (length table) ∷ []) (passed k)) n
      ∙ sym (met_on (file_tests bs) (room_test (begun bs * 5) (length table) ∷ []) (passed (begun bs)) (file_coded bs) (code_of (sym e) z))
