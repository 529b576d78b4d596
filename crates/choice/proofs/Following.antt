-- What is later than a write, and whether it may follow it in a tried order: by position, and as the definition has it (document 01, "FZF").
-- Assumes nothing.
use Prim.Native.Nat.{ℕ, ◌+◌, ◌-◌, ◌<◌}
use mathlib.Core.Path.{◌≡◌, refl, ap, sym, ◌∙◌}
use mathlib.Core.Bool.{Bool, true, false, not, cond, ◌&&◌, ◌||◌}
use mathlib.Core.Logic.{◌⊎◌, inl, inr, ◌≢◌}
use mathlib.Core.List.{List, [], ◌∷◌}
use native.Mathlib.Omega.{arith}
use lib.ListN.{length}
use lib.Dec.{eqb}
use borrow.Author.Tests.{eq-eqb, ne_eqb, eqb-true, not-true}
use Rattle.lists.specs.Lists.{all}
use Rattle.lists.proofs.Tests.{both, and_true, true_and, or_true, true_or, true_not}
use Rattle.lists.proofs.Every.{all_true, true_all}
use Rattle.history.specs.declared.Op.{Op}
use Rattle.methods.specs.Prepared.{no_write, same_value}
use Rattle.methods.specs.Place.{later}
use Rattle.methods.specs.Fzf.{of_first, may_follow}
use Rattle.positions.specs.Columns.{Cols, size, wr, is_own, Sound, op, ops, Of}
use Rattle.positions.proofs.OfHistory.{size_is, own_is, same_is}
use Rattle.placing.specs.States.{State, left, Holds, Whose}
use Rattle.placing.specs.Scanned.{Asks, Broken, a_write, two}
use Rattle.placing.specs.Stepped.{ending, Told}
use Rattle.placing.proofs.Lates.{LaterThan, top_in, met_in, in_met}

-- x is the first of the list
unfoldable pub head_of : List ℕ → ℕ → Bool
head_of [] x = false
head_of (v ∷ l) x = eqb x v

-- the first of the list, if any, is a write
abbrev pub Head : Cols → List ℕ → Type 0
Head C l = (v : ℕ) → head_of l v ≡ true → (v < size C) × (wr C v ≡ v)

head_same : (l : List ℕ) (x y : ℕ) → head_of l x ≡ true → head_of l y ≡ true → x ≡ y
unfolding head_of
head_same [] x y a b = absurd (both a refl)
head_same (v ∷ l) x y a b = eqb-true x v a ∙ sym (eqb-true y v b)

-- what the code tests: nothing is asked for, or the first of the list
unfoldable pub asks_first : List ℕ → ℕ → Bool
asks_first l asked = cond (eqb asked 0) true (head_of l (asked - 1))

module _ (C : Cols) (p : Sound C) (s : State) (h : Holds C s) (w : ℕ) (k : Whose C.writer s w) (l : List ℕ) (g : Head C l) (H : List Op) (f : Of C H) where
  abbrev K : List Op
  K = ops H (left s)

  -- j is a read, of w, of the first of the list
  abbrev R : ℕ → Bool
  R j = not (is_own C.writer j)

  abbrev A : ℕ → Bool
  A j = eqb (wr C j) w

  abbrev D : ℕ → Bool
  D j = head_of l (wr C j)

  inside : w < length H
  inside = omega (arith, k.inside, p.shape.long, size_is f)

  first_is : (j : ℕ) → j < length H → of_first (ops H l) (op H j) ≡ head_of l (wr C j)
  unfolding of_first head_of
  first_is j i = go l g
    where
      go : (l : List ℕ) → Head C l → of_first (ops H l) (op H j) ≡ head_of l (wr C j)
      go [] q = refl
      go (v ∷ l) q =
          let a = q v (eq-eqb v v refl) in
          same_is f v j (omega (arith, a.0, size_is f)) i ∙ rw a.1

  may_is : (j : ℕ) → LaterThan C w s j → may_follow (op H w) (ops H l) (op H j) ≡ (R j && (A j || D j))
  may_is j m =
      let i : j < length H = top_in C p s h H f j m.under in
      let a : no_write (op H j) ≡ not (is_own C.writer j) = ap not (own_is f j i) in
      let b : same_value (op H w) (op H j) ≡ eqb (wr C j) w = same_is f w j inside i ∙ rw k.write in
      rw (a, b, first_is j i)

  -- all that is later may follow, where it asks for the first of the list alone
  pub all_follow : (asked : ℕ) → Told C w s asked → asks_first l asked ≡ true → all (may_follow (op H w) (ops H l)) (later (op H w) K) ≡ true
  unfolding asks_first
  all_follow asked t e =
      true_all (may_follow (op H w) (ops H l)) (later (op H w) K)
      (λ x m.
      let i = in_met C p s h H f w k m in
      rw i.1 (may_is i.0 i.2 ∙ go i.0 (t.kinds i.0 i.2)))
    where
      wanted : (j : ℕ) → asked ≡ wr C j + 1 → head_of l (wr C j) ≡ true
      wanted j q =
          let z : eqb asked 0 ≡ false = ne_eqb asked 0 (λ r. omega arith) in
          let d : asked - 1 ≡ wr C j = omega arith in
          rw d at (rw z at e)

      go : (j : ℕ) → (wr C j ≢ j) × ((wr C j ≡ w) ⊎ (asked ≡ wr C j + 1)) → (R j && (A j || D j)) ≡ true
      go j (a, inl b) = true_and (true_not (ne_eqb (wr C j) j a)) (true_or (A j) (D j) (inl (eq-eqb (wr C j) w b)))
      go j (a, inr b) = true_and (true_not (ne_eqb (wr C j) j a)) (true_or (A j) (D j) (inr (wanted j b)))

  -- something later may not follow
  not_all : (j : ℕ) → LaterThan C w s j → ((R j && (A j || D j)) ≡ true → ⊥) →
      all (may_follow (op H w) (ops H l)) (later (op H w) K) ≡ false
  not_all j m n = go (all (may_follow (op H w) (ops H l)) (later (op H w) K)) refl
    where
      go : (b : Bool) → all (may_follow (op H w) (ops H l)) (later (op H w) K) ≡ b → b ≡ false
      go false e = refl
      go true e = absurd (n (sym (may_is j m) ∙ all_true (may_follow (op H w) (ops H l)) (later (op H w) K) e (op H j) (met_in C p s h H f w k j m)))

  -- it asks for another write than the first of the list
  pub one_not : (asked : ℕ) → Told C w s asked → asks_first l asked ≡ false → all (may_follow (op H w) (ops H l)) (later (op H w) K) ≡ false
  unfolding asks_first
  one_not asked t e = go t.asks
    where
      go : (asked ≡ 0) ⊎ ((j : ℕ) × Asks C.start C.writer w (ending C w) s 0 asked j) → all (may_follow (op H w) (ops H l)) (later (op H w) K) ≡ false
      go (inl z) = absurd (both (rw z refl) e)
      go (inr (j, a)) = not_all j a.met (λ q. no (or_true (A j) (D j) (and_true (R j) (A j || D j) q).1))
        where
          no : (eqb (wr C j) w ≡ true) ⊎ (head_of l (wr C j) ≡ true) → ⊥
          no (inl q) = a.other (eqb-true (wr C j) w q)
          no (inr q) =
              let z : eqb asked 0 ≡ false = ne_eqb asked 0 (λ r. omega (arith, a.name)) in
              let d : asked - 1 ≡ wr C j = omega (arith, a.name) in
              both q (rw d at (rw z at e))

  -- a write is later, or two reads ask for two others
  pub broken_not : Broken C.start C.writer w (ending C w) s → all (may_follow (op H w) (ops H l)) (later (op H w) K) ≡ false
  broken_not (a_write j m e) = not_all j m (λ q. both (eq-eqb _ _ e) (not-true (is_own C.writer j) (and_true (R j) (A j || D j) q).0))
  broken_not (two i j m n a b d) = go (all (may_follow (op H w) (ops H l)) (later (op H w) K)) refl
    where
      head : (j : ℕ) → LaterThan C w s j → wr C j ≢ w → all (may_follow (op H w) (ops H l)) (later (op H w) K) ≡ true → head_of l (wr C j) ≡ true
      head j m a e = pick (or_true (A j) (D j) (and_true (R j) (A j || D j) (sym (may_is j m) ∙ all_true (may_follow (op H w) (ops H l)) (later (op H w) K) e (op H j) (met_in C p s h H f w k j m))).1)
        where
          pick : (eqb (wr C j) w ≡ true) ⊎ (head_of l (wr C j) ≡ true) → head_of l (wr C j) ≡ true
          pick (inl q) = absurd (a (eqb-true (wr C j) w q))
          pick (inr q) = q

      go : (c : Bool) → all (may_follow (op H w) (ops H l)) (later (op H w) K) ≡ c → c ≡ false
      go false e = refl
      go true e = absurd (d (head_same l (wr C i) (wr C j) (head i m a e) (head j n b e)))
