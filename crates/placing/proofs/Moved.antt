-- The loops that place operations: the positions of L, from the highest down, are marked and written to the back of the order.
-- `Moved L m k s p o a`: of the positions of L below m, those from k on are placed; s is the state before, p, o and a its arrays now.
-- Assumes nothing.
use Prim.Native.Nat.{ℕ, suc, ◌+◌, ◌-◌, ◌≤◌, ◌<◌}
use mathlib.Core.Path.{◌≡◌, refl, ap, sym, ◌∙◌}
use mathlib.Core.Bool.{Bool, true, false}
use mathlib.Core.Logic.{◌⊎◌, inl, inr, ◌≢◌}
use mathlib.Core.List.{List, [], ◌∷◌, ◌++◌}
use native.Mathlib.Omega.{arith}
use lib.ListN.{length, get_or, drop, set, length-append, length-set}
use lib.Seq.{drop-cons, drop-set-lt, get_or-set_same, get_or-set_other, append_snoc}
use Rattle.lists.proofs.Tests.{both}
use Rattle.positions.specs.Places.{upto}
use Rattle.positions.proofs.Places.{below, upto_more, upto_stop}
use Rattle.placing.specs.States.{State, is_free}

-- the invariant: what is still to move, then the order, is constant
pub record Moved (L : ℕ → Bool) (m k : ℕ) (s : State) (p o : List ℕ) (a : ℕ) : Type 0 where
  pub within : k ≤ m
  pub marks : length p ≡ length s.placed
  pub cells : length o ≡ length s.order
  pub high : a ≤ length s.order
  pub room : length (upto L k) ≤ a
  pub gone : (j : ℕ) → k ≤ j → j < m → L j ≡ true → is_free p j ≡ false
  pub kept : (j : ℕ) → (j < k) ⊎ (L j ≡ false) → get_or p j 0 ≡ get_or s.placed j 0
  pub order : upto L k ++ drop a o ≡ upto L m ++ drop s.at s.order

-- one operation to the front of what is laid
pub laid_push : (o : List ℕ) (a i : ℕ) → 0 < a → a ≤ length o → drop (a - 1) (set o (a - 1) i) ≡ i ∷ drop a o
laid_push o a i h k =
    let c : a - 1 < length o = omega arith in
    let n : a - 1 < length (set o (a - 1) i) = rw (length-set o (a - 1) i) c in
    let u : suc (a - 1) ≡ a = omega arith in
    let l : a - 1 < a = omega arith in
    drop-cons (set o (a - 1) i) (a - 1) 0 n ∙ rw (u, get_or-set_same o (a - 1) i 0, drop-set-lt a o (a - 1) i)

module _ {L : ℕ → Bool} {m : ℕ} {s : State} where
  pub moved_none : s.at ≤ length s.order → length (upto L m) ≤ s.at
      → Moved L m m s s.placed s.order s.at
  moved_none c d =
      record {
        within = omega arith;
        marks = refl;
        cells = refl;
        high = c;
        room = d;
        gone = λ j h k e. absurd (omega arith);
        kept = λ j h. refl;
        order = refl;
      }

  module _ {k : ℕ} {p o : List ℕ} {a : ℕ} where
    -- past positions that are not in L
    pub moved_down : (i : ℕ) → i ≤ k → ((j : ℕ) → i ≤ j → j < k → L j ≡ false) → Moved L m k s p o a → Moved L m i s p o a
    moved_down i h n g =
        let e : upto L k ≡ upto L i = upto_stop L i k h n in
        record {
          within = omega arith;
          marks = g.marks;
          cells = g.cells;
          high = g.high;
          room = rw (← e) g.room;
          gone = λ j b c t. go j b c t (below j k);
          kept = λ j c. keeps j c;
          order = rw (← e) g.order;
        }
      where
        go : (j : ℕ) → i ≤ j → j < m → L j ≡ true → (j < k) ⊎ (k ≤ j) → is_free p j ≡ false
        go j b c t (inl d) = absurd (both t (n j b d))
        go j b c t (inr d) = g.gone j d c t

        keeps : (j : ℕ) → (j < i) ⊎ (L j ≡ false) → get_or p j 0 ≡ get_or s.placed j 0
        keeps j (inl c) = g.kept j (inl (omega arith))
        keeps j (inr c) = g.kept j (inr c)

    -- one position of L
    pub moved_push : (i : ℕ) → k ≡ i + 1 → i < length s.placed → L i ≡ true → Moved L m k s p o a
        → (0 < a) × Moved L m i s (set p i 1) (set o (a - 1) i) (a - 1)
    moved_push i e small t g = (
      some,
      record {
        within = omega arith;
        marks = length-set p i 1 ∙ g.marks;
        cells = length-set o (a - 1) i ∙ g.cells;
        high = omega arith;
        room = omega (arith, longer);
        gone = λ j b c u. go j b c u (below i j);
        kept = λ j c. keeps j c;
        order = rw (laid_push o a i some (omega arith)) (sym (append_snoc (upto L i) i (drop a o)) ∙ (rw (← up) g.order));
      },
    )
      where
        up : upto L k ≡ upto L i ++ (i ∷ [])
        up = rw e (upto_more L i t)

        longer : length (upto L i) + 1 ≤ a
        longer = omega (arith, simp length-append at (ap length up))

        some : 0 < a
        some = omega (arith, longer)

        go : (j : ℕ) → i ≤ j → j < m → L j ≡ true → (i < j) ⊎ (j ≤ i) → is_free (set p i 1) j ≡ false
        go j b c u (inl d) = rw (get_or-set_other p i j 1 0 (λ q. omega arith)) (g.gone j (omega arith) c u)
        go j b c u (inr d) = let q : j ≡ i = omega arith in let n : i < length p = omega (arith, g.marks) in rw (q, get_or-set_same p i 1 0)

        apart : (j : ℕ) → (j < i) ⊎ (L j ≡ false) → j ≢ i
        apart j (inl c) q = omega arith
        apart j (inr c) q = both (rw q t) c

        keeps : (j : ℕ) → (j < i) ⊎ (L j ≡ false) → get_or (set p i 1) j 0 ≡ get_or s.placed j 0
        keeps j c = get_or-set_other p i j 1 0 (apart j c) ∙ g.kept j (wider c)
          where
            wider : (j < i) ⊎ (L j ≡ false) → (j < k) ⊎ (L j ≡ false)
            wider (inl h) = inl (omega arith)
            wider (inr h) = inr h
