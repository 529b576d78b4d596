-- Marks of the rows that a list has held so far: a row is marked exactly where some position before holds it.
-- Assumes nothing.
use Prim.Native.Nat.{ℕ, ◌+◌, ◌<◌, ◌≤◌}
use mathlib.Core.Path.{◌≡◌, refl, sym, ap, ◌∙◌}
use mathlib.Core.Bool.{Bool, true, false, not, ◌||◌}
use mathlib.Core.List.{List}
use native.Mathlib.Omega.{arith}
use borrow.Author.Tests.{not-false, eqb-true, eqb-false}
use lib.Dec.{ltb, eqb}
use lib.ListN.{length, get_or, set, length-set}
use lib.Seq.{get_or-set_same, get_or-set_other}
use Rattle.lists.specs.Lists.{from, up_to, any}
use Rattle.lists.proofs.Tests.{or_false, told_true}
use Rattle.history.specs.Table.{row_count}
use Rattle.atomicity.specs.Check.{same_row, is_row, misfits}
use Rattle.orders.proofs.Positions.{told_row}
use Rattle.orders.proofs.Growing.{or_none, or_met, any_more}

-- the row stands at a position
abbrev holds : List ℕ → ℕ → ℕ → Bool
holds order i q = eqb (get_or order q 0) i

pub record Seen (order : List ℕ) (n p : ℕ) (seen : List ℕ) : Type 0 where
  pub long : length seen ≡ n
  pub marks : (i : ℕ) → i < n → ltb 0 (get_or seen i 0) ≡ any (holds order i) (up_to p)

module _ (order : List ℕ) (n : ℕ) where
  pub seen_none : (seen : List ℕ) → length seen ≡ n → ((i : ℕ) → i < length seen → get_or seen i 0 ≡ 0) → Seen order n 0 seen
  unfolding any from
  seen_none seen e z = record { long = e; marks = λ i h. ap (λ (x : ℕ). ltb 0 x) (z i (omega arith)) }

  pub seen_more : (p row : ℕ) (seen : List ℕ) → row ≡ get_or order p 0 → row < n → Seen order n p seen → Seen order n (p + 1) (set seen row 1)
  seen_more p row seen e h s = record { long = length-set seen row 1 ∙ s.long; marks = λ i l. go i l (holds order i p) refl ∙ sym (any_more (holds order i) p) }
    where
      go : (i : ℕ) → i < n → (b : Bool) → holds order i p ≡ b → ltb 0 (get_or (set seen row 1) i 0) ≡ (any (holds order i) (up_to p) || holds order i p)
      go i l true q =
          let same : row ≡ i = e ∙ eqb-true (get_or order p 0) i q in
          rw (q, ← same, get_or-set_same seen row 1 0 (omega (arith, s.long))) (sym (or_met (any (holds order row) (up_to p))))
      go i l false q =
          let other : i ≡ row → ⊥ = λ (x : i ≡ row). eqb-false (get_or order p 0) i q (sym (x ∙ e)) in
          rw (q, get_or-set_other seen row i 1 0 other) (s.marks i l ∙ sym (or_none (any (holds order i) (up_to p))))

pub row_below : (t : List ℕ) (register i : ℕ) → is_row t register i ≡ true → i < row_count t
row_below t register i e = (told_true (told_row t register i) e).exists

module _ (t : List ℕ) (register : ℕ) (order : List ℕ) (n p : ℕ) (few : row_count t ≤ n) where
  -- the test by the marks
  abbrev by_marks : List ℕ → Bool
  by_marks seen = not (is_row t register (get_or order p 0)) || ltb 0 (get_or seen (get_or order p 0) 0)

  same_misfits : (seen : List ℕ) → Seen order n p seen → by_marks seen ≡ misfits t register order p
  unfolding misfits same_row
  same_misfits seen s = go (is_row t register (get_or order p 0)) refl
    where
      go : (b : Bool) → is_row t register (get_or order p 0) ≡ b → (not b || ltb 0 (get_or seen (get_or order p 0) 0)) ≡ (not b || any (holds order (get_or order p 0)) (up_to p))
      go true e = s.marks (get_or order p 0) (omega (arith, row_below t register (get_or order p 0) e))
      go false e = refl

  -- what it answers is what is defined
  pub seen_misfits : (seen : List ℕ) → Seen order n p seen → (r b : Bool) → r ≡ by_marks seen → r ≡ b → misfits t register order p ≡ b
  seen_misfits seen s r b e f = sym (same_misfits seen s) ∙ sym e ∙ f

  -- a row that fits has a mark
  pub fit_below : (seen : List ℕ) (r : Bool) → r ≡ by_marks seen → r ≡ false → get_or order p 0 < n
  fit_below seen r e f =
      let row = (or_false (not (is_row t register (get_or order p 0))) (ltb 0 (get_or seen (get_or order p 0) 0)) (sym e ∙ f)).0 in
      omega (arith, row_below t register (get_or order p 0) (not-false (is_row t register (get_or order p 0)) row))
