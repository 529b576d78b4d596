-- What the writing call leaves: each of its outcomes, and that what it wrote is read back.
-- Assumes nothing.
use Prim.Native.Nat.{ℕ, ◌+◌, ◌/◌, ◌≤◌, ◌<◌}
use mathlib.Core.Path.{◌≡◌, refl, sym, ap, ◌∙◌}
use mathlib.Core.List.{List, ◌++◌}
use native.Mathlib.Omega.{arith}
use lib.ListN.{length, take, drop}
use lib.Seq.{sets, take-append_seam}
use borrow.Author.Tests.{lt-ltb, le-ltb}
use Rattle.lists.proofs.Stores.{sets_front, sets_behind}
use Rattle.history.specs.declared.Answer.{Answer}
use Rattle.history.specs.Table.{largest_stamp}
use Rattle.history.specs.Answer.{refused, passed, first_met}
use Rattle.history.specs.declared.Code.TheVariants.{BadSpan, ShortList}
use Rattle.text.specs.Decimal.{decimal}
use Rattle.clock.specs.Clock.{time_of, clock_of, write_tests, write_answer, write_text, Writes, WritesStamp}
use Rattle.clock.proofs.Exact.{clock_exactly}
use Rattle.clock.proofs.Lengths.{clock_short}

-- What a call with a stamp and a text answers and leaves.
abbrev pub Written : ℕ → List ℕ → Answer → List ℕ → Type 0
Written s old a new = Writes s old a new × WritesStamp s old a new

module _ (s : ℕ) (old : List ℕ) (a : Answer) where
  pub written_large : largest_stamp < s → a ≡ refused BadSpan 0 → Written s old a old
  unfolding write_answer write_text write_tests first_met
  written_large h e =
      let w = lt-ltb largest_stamp s h in
      let c : a.code ≡ 5 = ap (λ (x : Answer). x.code) e in (
        (e ∙ sym (rw w refl), sym (rw w refl)),
        record { short = omega (arith, ap (λ (x : Answer). x.rows) e); back = λ z. absurd (omega arith); every = λ l r. absurd (omega arith) },
      )

  module _ (small : s ≤ largest_stamp) where
    pub written_short : length old < length (clock_of s) → a ≡ refused ShortList 0 → Written s old a old
    unfolding write_answer write_text write_tests first_met
    written_short h e =
        let w = le-ltb largest_stamp s small in
        let v = lt-ltb (length old) (length (clock_of s)) h in
        let c : a.code ≡ 10 = ap (λ (x : Answer). x.code) e in (
          (e ∙ sym (rw (w, v) refl), sym (rw (w, v) refl)),
          record { short = omega (arith, ap (λ (x : Answer). x.rows) e); back = λ z. absurd (omega arith); every = λ l r. absurd (omega (arith, clock_short s small)) },
        )

    pub written : (new : List ℕ) → length (clock_of s) ≤ length old → a ≡ passed (length (clock_of s)) → new ≡ sets old 0 (clock_of s) → Written s old a new
    unfolding write_answer write_text write_tests first_met
    written new h e n =
        let w = le-ltb largest_stamp s small in
        let v = le-ltb (length old) (length (clock_of s)) h in
        let m : new ≡ clock_of s ++ drop (length (clock_of s)) old = n ∙ sets_front (clock_of s) old h in
        let r : a.rows ≡ length (clock_of s) = ap (λ (x : Answer). x.rows) e in
        let t : take a.rows new ≡ clock_of s = rw (r, m) (take-append_seam (clock_of s) (drop (length (clock_of s)) old)) in (
          (e ∙ sym (rw (w, v) refl), m ∙ sym (rw (w, v) refl)),
          record {
            short = omega (arith, r, clock_short s small);
            back = λ z. (clock_exactly (take a.rows new) s).1 (small, t);
            every = λ l g. ap (λ (x : Answer). x.code) e;
          },
        )

-- the days and what stands behind them, one after the other
pub days_time : (s : ℕ) (old one new : List ℕ) (at : ℕ) → at ≡ 0 + length (decimal (s / 86400000)) → one ≡ sets old 0 (decimal (s / 86400000))
    → new ≡ sets one at (time_of s) → new ≡ sets old 0 (clock_of s)
unfolding clock_of
days_time s old one new at p q r =
    r ∙ ap (λ (l : List ℕ). sets l at (time_of s)) q ∙ sets_behind (decimal (s / 86400000)) (time_of s) old 0 at (sym p)
