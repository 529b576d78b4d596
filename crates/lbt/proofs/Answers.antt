-- What a step of the placing says of the step of LBT (000, figure 2, lines 12 to 17): it fails, asks for no write, or asks for one.
-- Assumes nothing.
use Prim.Native.Nat.{ℕ, ◌+◌, ◌<◌}
use mathlib.Core.Path.{◌≡◌, refl, ap, sym, ◌∙◌}
use mathlib.Core.Logic.{◌⊎◌, inl, inr}
use mathlib.Core.Bool.{true}
use mathlib.Core.List.{List}
use native.Mathlib.Omega.{arith}
use lib.ListN.{length}
use borrow.Author.Tests.{eqb-true, eq-eqb}
use Rattle.lists.proofs.Tests.{both}
use Rattle.history.specs.declared.Op.{Op}
use Rattle.history.specs.Table.{is_write}
use Rattle.methods.specs.Lbt.{Step, bad, done, next, step}
use Rattle.walks.proofs.Epochs.{Bad, late_write, two_values, no_writer, Step?, is_bad, is_done, is_next, step?}
use Rattle.positions.specs.Columns.{Cols, wr, Sound, op, ops, Of}
use Rattle.positions.proofs.OfHistory.{size_is, own_is, value_same, same_value_lem}
use Rattle.placing.specs.States.{State, left, Holds, Whose}
use Rattle.placing.specs.Scanned.{Asking, Broken, a_write, two}
use Rattle.placing.specs.Stepped.{ending, Told}
use Rattle.placing.proofs.Lates.{LaterThan, top_in, writer_in, in_write, met_in, in_met}

module _ (C : Cols) (p : Sound C) (w : ℕ) (s : State) (h : Holds C s) (k : Whose C.writer s w) (H : List Op) (f : Of C H) where
  abbrev L : List Op
  L = ops H (left s)

  abbrev Later : ℕ → Type 0
  Later j = LaterThan C w s j

  inside : (j : ℕ) → Later j → j < length H
  inside j m = top_in C p s h H f j m.under

  w_in : w < length H
  w_in = omega (arith, size_is f, k.inside, p.shape.long)

  -- an operation that is met has the value of w where w is its write
  of_w : (j : ℕ) → Later j → wr C j ≡ w → (op H j).value ≡ (op H w).value
  of_w j m e = value_same f j w (inside j m) w_in (e ∙ sym k.write)

  w_of : (j : ℕ) → Later j → (op H j).value ≡ (op H w).value → wr C j ≡ w
  w_of j m e = same_value_lem f j w (inside j m) w_in e ∙ k.write

  pub step_bad : Broken C.start C.writer w (ending C w) s → step (op H w) L ≡ bad
  step_bad b = go _ (step? (op H w) L) b
    where
      is_write_lem : (j : ℕ) → Later j → wr C j ≡ j → is_write (op H j) ≡ true
      is_write_lem j m e = own_is f j (inside j m) ∙ eq-eqb _ _ e

      go : (r : Step) → Step? (op H w) L r → Broken C.start C.writer w (ending C w) s → r ≡ bad
      go bad x y = refl
      go done (is_done d) (a_write j m e) = absurd (both (is_write_lem j m e) (d.quiet _ (met_in C p s h H f w k j m)))
      go done (is_done d) (two i j a b x y z) = absurd (x (w_of i a (d.own _ (met_in C p s h H f w k i a))))
      go (next v) (is_next n) (a_write j m e) = absurd (both (is_write_lem j m e) (n.quiet _ (met_in C p s h H f w k j m)))
      go (next v) (is_next n) (two i j a b x y z) = absurd (three (n.own _ (met_in C p s h H f w k i a)) (n.own _ (met_in C p s h H f w k j b)))
        where
          three : ((op H i).value ≡ (op H w).value) ⊎ ((op H i).value ≡ v.value) → ((op H j).value ≡ (op H w).value) ⊎ ((op H j).value ≡ v.value) → ⊥
          three (inl q) r = x (w_of i a q)
          three (inr q) (inl r) = y (w_of j b r)
          three (inr q) (inr r) = z (same_value_lem f i j (inside i a) (inside j b) (q ∙ sym r))

  -- a scan that ends well does not fail
  not_bad : (asked : ℕ) → Told C w s asked → Bad (op H w) L → ⊥
  not_bad asked t (late_write o m e) =
      let i = in_met C p s h H f w k m in (t.kinds i.0 i.2).0 (eqb-true _ _ (sym (own_is f i.0 (inside i.0 i.2)) ∙ sym (ap is_write i.1) ∙ e))
  not_bad asked t (two_values q a b m n x y z) = go (t.kinds i.0 i.2).1 (t.kinds j.0 j.2).1
    where
      i : (j : ℕ) × (a ≡ op H j) × Later j
      i = in_met C p s h H f w k m

      j : (j : ℕ) × (b ≡ op H j) × Later j
      j = in_met C p s h H f w k n

      va : a.value ≡ (op H i.0).value
      va = ap (λ (o : Op). o.value) i.1

      vb : b.value ≡ (op H j.0).value
      vb = ap (λ (o : Op). o.value) j.1

      go : (wr C i.0 ≡ w) ⊎ (asked ≡ wr C i.0 + 1) → (wr C j.0 ≡ w) ⊎ (asked ≡ wr C j.0 + 1) → ⊥
      go (inl u) v = x (va ∙ of_w i.0 i.2 u)
      go (inr u) (inl v) = y (vb ∙ of_w j.0 j.2 v)
      go (inr u) (inr v) =
          let e : wr C j.0 ≡ wr C i.0 = omega arith in
          z (vb ∙ value_same f j.0 i.0 (inside j.0 j.2) (inside i.0 i.2) e ∙ sym va)
  not_bad asked t (no_writer q o m x) =
      let i = in_met C p s h H f w k m in
      x (op H (wr C i.0)) (writer_in C p s h H f i.0 i.2.under i.2.free) (f.value i.0 (inside i.0 i.2) ∙ sym (ap (λ (o : Op). o.value) i.1))

  pub step_done : (asked : ℕ) → asked ≡ 0 → Told C w s asked → step (op H w) L ≡ done
  step_done asked z t = go _ (step? (op H w) L)
    where
      go : (r : Step) → Step? (op H w) L r → r ≡ done
      go bad (is_bad b) = absurd (not_bad asked t b)
      go done x = refl
      go (next v) (is_next n) = absurd (sole (t.kinds i.0 i.2).1)
        where
          i : (j : ℕ) × (n.why ≡ op H j) × Later j
          i = in_met C p s h H f w k n.late

          sole : (wr C i.0 ≡ w) ⊎ (asked ≡ wr C i.0 + 1) → ⊥
          sole (inl u) = n.other (sym n.asks ∙ ap (λ (o : Op). o.value) i.1 ∙ of_w i.0 i.2 u)
          sole (inr u) = omega arith

  pub step_next : (asked v : ℕ) → asked ≡ v + 1 → Told C w s asked → step (op H w) L ≡ next (op H v)
  step_next asked v z t = go _ (step? (op H w) L)
    where
      go : (r : Step) → Step? (op H w) L r → r ≡ next (op H v)
      go bad (is_bad b) = absurd (not_bad asked t b)
      go done (is_done d) = absurd (none t.asks)
        where
          none : Asking C.start C.writer w (ending C w) s 0 asked → ⊥
          none (inl e) = omega arith
          none (inr (j, a)) = a.other (w_of j a.met (d.own _ (met_in C p s h H f w k j a.met)))
      go (next x) (is_next n) = ap next (named (t.kinds i.0 i.2).1)
        where
          i : (j : ℕ) × (n.why ≡ op H j) × Later j
          i = in_met C p s h H f w k n.late

          m : (j : ℕ) × (x ≡ op H j) × (j < s.top) × (wr C j ≡ j)
          m = in_write C p s h H f n.asked

          named : (wr C i.0 ≡ w) ⊎ (asked ≡ wr C i.0 + 1) → x ≡ op H v
          named (inl u) = absurd (n.other (sym n.asks ∙ ap (λ (o : Op). o.value) i.1 ∙ of_w i.0 i.2 u))
          named (inr u) =
              let b : (op H i.0).value ≡ (op H m.0).value = sym (ap (λ (o : Op). o.value) i.1) ∙ n.asks ∙ ap (λ (o : Op). o.value) m.1 in
              let a : wr C i.0 ≡ m.0 = same_value_lem f i.0 m.0 (inside i.0 i.2) (top_in C p s h H f m.0 m.2) b ∙ m.3 in
              let e : m.0 ≡ v = omega arith in
              m.1 ∙ ap (op H) e
