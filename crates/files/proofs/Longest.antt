-- The first 36,900 bytes of a file tell its answer: no record is longer than 36 bytes, so that a 1,025th begins and ends among them.
-- Assumes nothing.
use Prim.Native.Nat.{ℕ, zero, suc, ◌+◌, ◌*◌, ◌≤◌, ◌<◌}
use mathlib.Core.Path.{◌≡◌, refl, sym, ap, ◌∙◌}
use mathlib.Core.Logic.{◌⊎◌, inl, inr}
use mathlib.Core.Bool.{Bool, true, false, not, ◌||◌}
use mathlib.Core.List.{List}
use native.Mathlib.Nat.{zero-add}
use native.Mathlib.Omega.{arith}
use borrow.Author.Tests.{eqb-true, eqb-false, ne_eqb, leb-true, leb-false, not-false}
use lib.Dec.{leb, eqb}
use lib.ListN.{length, take}
use lib.Seq.{take_all, length-take-le}
use Rattle.lists.proofs.Tests.{told_true, told_or, told_eqb}
use Rattle.history.specs.declared.Answer.{Answer}
use Rattle.history.specs.Table.{operation, is_opening, is_write, is_read}
use Rattle.history.specs.Answer.{first_met, passed}
use Rattle.history.specs.Screen.{wrong_kind}
use Rattle.records.specs.Records.{field, next, record_from, value_of}
use Rattle.records.proofs.Blocks.{part_part}
use Rattle.records.proofs.Records.{most_length}
use Rattle.files.specs.Files.{left, mismatched, record_tests, file_answer}
use Rattle.files.proofs.Passing.{past_length}
use Rattle.files.proofs.Walking.{Inspecting, inspect_none, inspect_hit, inspect_passes, inspect_more}

module _ (bs : List ℕ) (n : ℕ) (enough : 36900 ≤ n) (more : n < length bs) where
  abbrev cs : List ℕ
  cs = take n bs

  long : length cs ≡ n
  long = length-take-le n bs (omega arith)

  same_field : (at k : ℕ) → at + k ≤ n → field cs at k ≡ field bs at k
  unfolding field
  same_field at k h = ap value_of (part_part bs 0 n at k h) ∙ ap (λ (o : ℕ). field bs o k) (zero-add at)

  -- the tests at a record that has 36 bytes in both
  module _ (i at : ℕ) (h : at + 36 ≤ 36900) where
    abbrev strange : ℕ → Bool
    strange size = not (eqb size 34 || eqb size 18)

    size_is : field cs at 2 ≡ field bs at 2
    size_is = same_field at 2 (omega arith)

    kind_is : field cs (at + 2) 2 ≡ field bs (at + 2) 2
    kind_is = same_field (at + 2) 2 (omega arith)

    met_strange : (xs : List ℕ) → 2 ≤ left xs at → strange (field xs at 2) ≡ true → first_met (record_tests xs i at) (passed 0) ≡ record { code = 17; row = at; rows = 0; trials = 0 }
    unfolding first_met record_tests
    met_strange xs two s = rw (ne_eqb (left xs at) 1 (λ e. omega arith), s) refl

    small : (size : ℕ) → strange size ≡ false → size ≤ 34
    small size e = go (told_true (told_or (told_eqb size 34) (told_eqb size 18)) (not-false _ e))
      where
        go : (size ≡ 34) ⊎ (size ≡ 18) → size ≤ 34
        go (inl k) = omega arith
        go (inr k) = omega arith

    same_kind : mismatched (field cs at 2) (operation (record_from cs at) i) ≡ mismatched (field bs at 2) (operation (record_from bs at) i)
    unfolding mismatched wrong_kind is_write is_opening is_read record_from
    same_kind = rw (size_is, kind_is) refl

    same_tests : first_met (record_tests cs i at) (passed 0) ≡ first_met (record_tests bs i at) (passed 0)
    same_tests = go (strange (field bs at 2)) refl
      where
        go : (b : Bool) → strange (field bs at 2) ≡ b → first_met (record_tests cs i at) (passed 0) ≡ first_met (record_tests bs i at) (passed 0)
        go true e = met_strange cs (omega (arith, long)) (rw size_is e) ∙ sym (met_strange bs (omega arith) e)
        go false e =
            let s = small (field bs at 2) e in
            past_length cs i at 0 (λ q. omega (arith, long)) (rw size_is e) (omega (arith, long, size_is))
            ∙ rw same_kind (sym (past_length bs i at 0 (λ q. omega arith) e (omega arith)))

  -- one record: its refusal is the answer of both, or both go on to the same next one
  step : (i at : ℕ) → i ≤ 1024 → at ≤ i * 36 → Inspecting cs i at → Inspecting bs i at
      → (i < 1024 → (o : ℕ) → o ≤ (i + 1) * 36 → Inspecting cs (i + 1) o → Inspecting bs (i + 1) o → file_answer cs ≡ file_answer bs)
      → file_answer cs ≡ file_answer bs
  step i at few near c b on = go (eqb a.code 0) refl
    where
      a : Answer
      a = first_met (record_tests cs i at) (passed 0)

      among : at + 36 ≤ 36900
      among = omega arith

      e : a ≡ first_met (record_tests bs i at) (passed 0)
      e = same_tests i at among

      in_cs : at < length cs
      in_cs = omega (arith, long)

      in_bs : at < length bs
      in_bs = omega arith

      go : (t : Bool) → eqb a.code 0 ≡ t → file_answer cs ≡ file_answer bs
      go true t =
          let z = eqb-true a.code 0 t in
          let p = inspect_passes bs i at b in_bs a e z in
          let same : next cs at ≡ next bs at = ap (λ (k : ℕ). at + (2 + k)) (size_is i at among) in
          on p.few (next bs at) (omega (arith, p.stands.size, most_length (field bs (at + 2) 2))) (rw same at (inspect_more cs i at c in_cs a refl z)) (inspect_more bs i at b in_bs a e z)
      go false t = let n = eqb-false a.code 0 t in sym (inspect_hit cs i at c in_cs a refl n) ∙ inspect_hit bs i at b in_bs a e n

  along : (fuel i at : ℕ) → i + fuel ≡ 1024 → at ≤ i * 36 → Inspecting cs i at → Inspecting bs i at → file_answer cs ≡ file_answer bs
  along zero i at f near c b = step i at (omega arith) near c b (λ l o k g h. absurd (omega arith))
  along (suc fuel) i at f near c b = step i at (omega arith) near c b (λ l o k g h. along fuel (i + 1) o (omega arith) k g h)

-- THE FIRST 36,900 BYTES of a file have its answer.
pub first_bytes : (bs : List ℕ) (n : ℕ) → 36900 ≤ n → file_answer (take n bs) ≡ file_answer bs
first_bytes bs n h = go (leb (length bs) n) refl
  where
    go : (b : Bool) → leb (length bs) n ≡ b → file_answer (take n bs) ≡ file_answer bs
    go true e = ap file_answer (take_all n bs (leb-true (length bs) n e))
    go false e = along bs n h (leb-false (length bs) n e) 1024 0 0 (omega arith) (omega arith) (inspect_none (take n bs)) (inspect_none bs)
