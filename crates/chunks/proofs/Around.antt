-- The clusters of a chunk by position are in one of the orders that figure 4 lists (`ordered`).
-- Assumes nothing.
use Prim.Native.Nat.{ℕ, ◌<◌}
use mathlib.Core.Path.{◌≡◌, refl, ap}
use mathlib.Core.Logic.{◌≢◌, ◌⊎◌, inl, inr}
use mathlib.Core.List.Memᴰ.{head as here}
use mathlib.Core.List.Memᴰ.{tail as there}
use mathlib.Core.List.{List, [], ◌∷◌, ◌++◌, Memᴰ as In}
use native.Mathlib.Decide.{dec_lt}
use native.Mathlib.Omega.{arith}
use Rattle.lists.specs.Pairs.{cons}
use Rattle.lists.proofs.Pairs.{pairs_one, pairs_head, pairs_tail, pairs_map}
use Rattle.chunks.specs.Chunk.{Rising, Chunk, Placing, Swapped, Around}
use Rattle.chunks.proofs.Rising.{Before, After, Ends, rising_cons, rising_last}
use Rattle.chunks.proofs.Order.{behind, side, ends, astride}

-- `U` has the forward clusters `a ∷ A` by position.
record Forwards {N : Type 0} (pos : N → ℕ) (a : N) (A U : List N) : Type 0 where
  from : (x : N) → In x U → In x (a ∷ A)
  rising : Rising pos U
  shape : (U ≡ a ∷ A) ⊎ Swapped (a ∷ A) U

module _ {N : Type 0} {f M pos : N → ℕ} {a : N} where
  -- Positions rise with the low ends, but for the first two perhaps: each of the others has two of smaller low end, so it stands behind them.
  forwards : {B : List N} (A : List N) → Chunk f M a A B → Placing f M pos (a ∷ A ++ B) → (U : List N) × Forwards pos a A U
  forwards [] k p = (a ∷ [], record { from = λ x i. i; rising = pairs_one a; shape = inl refl })
  forwards (w ∷ T) k p =
      elim (dec_lt (pos a) (pos w)) [
        | yes h ↦ (a ∷ w ∷ T, record { from = λ x i. i; rising = rising_cons pos h tail; shape = inl refl })
        | no h ↦
            (w ∷ a ∷ T, record { from = swap; rising = rising_cons pos (omega (arith, apart)) front; shape = inr (a, w, T, refl, refl) })
      ]
    where
      low : (y : N) → In y (w ∷ T) → f a < f y
      low = pairs_head k.rising

      apart : pos a ≢ pos w
      apart e = omega (arith, low w (here refl), ap f (p.apart a w (here refl) (there (here refl)) e))

      -- `behind` with `a` as the third
      tail : Rising pos (w ∷ T)
      tail = pairs_map (pairs_tail k.rising) (λ x y i j h. behind k p (there i) (there j) (here refl) h (low y j) (omega (arith, low x i)))

      -- `behind` with `w` as the third
      front : Rising pos (a ∷ T)
      front = cons before (pairs_tail tail)
        where
          before : Before pos T a
          before y i =
              behind k p (here refl) (there (there i)) (there (here refl)) (low y (there i)) (pairs_head (pairs_tail k.rising) y i)
              (omega (arith, low w (here refl)))

      swap : (x : N) → In x (w ∷ a ∷ T) → In x (a ∷ w ∷ T)
      swap x (here e) = there (here e)
      swap x (there (here e)) = here e
      swap x (there (there i)) = there (there i)

  -- The backward clusters go to the ends. There are no three, as the position of `a` would part each two of them.
  around : {A U : List N} (B : List N) → Chunk f M a A B → Placing f M pos (a ∷ A ++ B) → Forwards pos a A U →
      (L : List N) × Rising pos L × Around U B L
  around {U = U} [] k p u = (U, u.rising, refl)
  around {A} {U} (b ∷ []) k p u = go (side k p b (here refl))
    where
      go : Before pos (a ∷ A) b ⊎ After pos (a ∷ A) b → (L : List N) × Rising pos L × Around U (b ∷ []) L
      go (inl h) = (b ∷ U, cons (λ x i. h x (u.from x i)) u.rising, inl refl)
      go (inr h) = (U ++ b ∷ [], rising_last pos U b u.rising (λ x i. h x (u.from x i)), inr refl)
  around {A} {U} (b ∷ c ∷ []) k p u = go (ends k p (here refl) (there (here refl)) (pairs_head k.distinct c (here refl)))
    where
      both : (v w : N) → Ends pos (a ∷ A) v w → Rising pos (v ∷ U ++ w ∷ [])
      both v w (h, l) = rising_last pos (v ∷ U) w (cons (λ x i. h x (u.from x i)) u.rising) last
        where
          last : After pos (v ∷ U) w
          last x (here e) = omega (arith, ap pos e, h a (here refl), l a (here refl))
          last x (there i) = l x (u.from x i)

      go : Ends pos (a ∷ A) b c ⊎ Ends pos (a ∷ A) c b → (L : List N) × Rising pos L × Around U (b ∷ c ∷ []) L
      go (inl h) = (b ∷ U ++ c ∷ [], both b c h, inl refl)
      go (inr h) = (c ∷ U ++ b ∷ [], both c b h, inr refl)
  around (b ∷ c ∷ d ∷ B) k p u =
      let s = k.distinct in
      let bc = astride k p (here refl) (there (here refl)) (pairs_head s c (here refl)) in
      let bd = astride k p (here refl) (there (there (here refl))) (pairs_head s d (there (here refl))) in
      let cd = astride k p (there (here refl)) (there (there (here refl))) (pairs_head (pairs_tail s) d (here refl)) in
      absurd (omega (arith, bc.0, bc.1, bd.0, bd.1, cd.0, cd.1))

  -- THE RESULT: by position come the forward clusters by low end, or with the first two interchanged, and around them the backward ones.
  pub ordered : {A B : List N} → Chunk f M a A B → Placing f M pos (a ∷ A ++ B) →
      (L : List N) × Rising pos L × ((U : List N) × ((U ≡ a ∷ A) ⊎ Swapped (a ∷ A) U) × Around U B L)
  ordered {A} {B} k p =
      let (U, u) = forwards A k p in
      let (L, r, s) = around B k p u in
      (L, r, (U, u.shape, s))
