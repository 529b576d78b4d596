-- The reading call, part by part: days, a field behind its mark, a count with a field behind it, and the whole.
-- Assumes nothing.
use Prim.Native.Nat.{ℕ, ◌+◌, ◌-◌, ◌*◌, ◌≤◌, ◌<◌}
use mathlib.Core.Path.{◌≡◌, refl, sym}
use mathlib.Core.Bool.{true, false}
use mathlib.Core.List.{List, [], ◌∷◌}
use native.Mathlib.Omega.{arith}
use lib.ListN.{length, get_or, take, drop}
use lib.Seq.{take_all}
use borrow.Author.Tests.{lt-ltb, le-ltb, eq-eqb, ne_eqb}
use Rattle.history.specs.Table.{largest_stamp}
use Rattle.std.specs.Prelude.{Option, Some, None}
use Rattle.parsing.specs.Numbers.{number_of, number_in}
use Rattle.clock.specs.Clock.{colon, point, leading_zero, days_in, field_in, with_field, said_at, clock_in}

pub leads_short : (t : List ℕ) → length t < 2 → false ≡ leading_zero t
unfolding leading_zero
leads_short [] h = refl
leads_short (c ∷ []) h = refl
leads_short (c ∷ d ∷ t) h = absurd (omega arith)

pub leads_zero : (t : List ℕ) → 2 ≤ length t → get_or t 0 0 ≡ 48 → true ≡ leading_zero t
unfolding leading_zero
leads_zero [] h e = absurd (omega arith)
leads_zero (c ∷ []) h e = absurd (omega arith)
leads_zero (c ∷ d ∷ t) h e = sym (eq-eqb c 48 e)

pub leads_other : (t : List ℕ) → 2 ≤ length t → (get_or t 0 0 ≡ 48 → ⊥) → false ≡ leading_zero t
unfolding leading_zero
leads_other [] h e = absurd (omega arith)
leads_other (c ∷ []) h e = absurd (omega arith)
leads_other (c ∷ d ∷ t) h e = sym (ne_eqb c 48 e)

module _ (t : List ℕ) where
  pub days_zero : leading_zero t ≡ true → None ≡ days_in t
  unfolding days_in
  days_zero e = sym (rw e refl)

  pub days_number : leading_zero t ≡ false → number_in t ≡ days_in t
  unfolding days_in
  days_number e = sym (rw e refl)

module _ (mark : ℕ) where
  pub field_none : (t : List ℕ) → length t < 1 → None ≡ field_in mark t
  unfolding field_in
  field_none [] h = refl
  field_none (c ∷ t) h = absurd (omega arith)

  pub field_other : (t : List ℕ) → 1 ≤ length t → (get_or t 0 0 ≡ mark → ⊥) → None ≡ field_in mark t
  unfolding field_in
  field_other [] h e = absurd (omega arith)
  field_other (c ∷ t) h e = sym (rw (ne_eqb c mark e) refl)

  pub field_some : (t : List ℕ) (k : ℕ) → 1 ≤ length t → get_or t 0 0 ≡ mark → length t ≤ k + 1 → number_of (take k (drop 1 t)) ≡ field_in mark t
  unfolding field_in
  field_some [] k h e l = absurd (omega arith)
  field_some (c ∷ t) k h e l = rw (take_all k t (omega arith)) (sym (rw (eq-eqb c mark e) refl))

module _ (limit : ℕ) (a b : Option ℕ) where
  pub no_count : a ≡ None → None ≡ with_field limit a b
  unfolding with_field
  no_count e = sym (rw e refl)

  module _ (v : ℕ) (counted : a ≡ Some v) where
    pub no_field : b ≡ None → None ≡ with_field limit a b
    unfolding with_field
    no_field e = sym (rw (counted, e) refl)

    module _ (x : ℕ) (said : b ≡ Some x) where
      pub field_over : limit ≤ x → None ≡ with_field limit a b
      unfolding with_field
      field_over h = sym (rw (counted, said, le-ltb x limit h) refl)

      pub stamp_over : x < limit → largest_stamp < v * limit + x → None ≡ with_field limit a b
      unfolding with_field
      stamp_over h l = sym (rw (counted, said, lt-ltb x limit h, lt-ltb largest_stamp (v * limit + x) l) refl)

      pub stamp_held : x < limit → v * limit + x ≤ largest_stamp → Some (v * limit + x) ≡ with_field limit a b
      unfolding with_field
      stamp_held h l = sym (rw (counted, said, lt-ltb x limit h, le-ltb largest_stamp (v * limit + x) l) refl)

module _ (t : List ℕ) where
  -- the parts of the whole
  pub read_parts : (n : ℕ) → n ≡ length t - 13 → (d h i m j c k u r : Option ℕ)
      → d ≡ days_in (take n t)
      → h ≡ field_in colon (take (n + 3 - n) (drop n t)) → i ≡ with_field 24 d h
      → m ≡ field_in colon (take (n + 6 - (n + 3)) (drop (n + 3) t)) → j ≡ with_field 60 i m
      → c ≡ field_in colon (take (n + 9 - (n + 6)) (drop (n + 6) t)) → k ≡ with_field 60 j c
      → u ≡ field_in point (take (n + 13 - (n + 9)) (drop (n + 9) t)) → r ≡ with_field 1000 k u
      → r ≡ clock_in t
  unfolding clock_in said_at
  read_parts n e d h i m j c k u r ed eh ei em ej ec ek eu er =
      let p : n + 3 - n ≡ 3 = omega arith in
      let q : n + 6 - (n + 3) ≡ 3 = omega arith in
      let o : n + 9 - (n + 6) ≡ 3 = omega arith in
      let v : n + 13 - (n + 9) ≡ 4 = omega arith in
      rw (er, ek, ej, ei, eu, ec, em, eh, ed, p, q, o, v, ← e)
