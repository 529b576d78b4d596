-- Connectivity: wherever the forward clusters of a chunk are cut by position, one behind the cut has its low end below the high end of one
-- before it.
-- Assumes nothing.
use Prim.Native.Nat.{ℕ, zero, suc, ◌≤◌, ◌<◌}
use mathlib.Core.List.Memᴰ.{head as here}
use mathlib.Core.List.Memᴰ.{tail as there}
use mathlib.Core.List.{List, ◌∷◌, Memᴰ as In}
use native.Mathlib.Decide.{dec_le, dec_lt}
use native.Mathlib.Omega.{arith}
use Rattle.chunks.specs.Chunk.{Chunk}

module _ {N : Type 0} {f M : N → ℕ} {a : N} {A B : List N} (k : Chunk f M a A B) where
  -- The links lead from any cluster to the first. So where the first is of a kind and some other is not, one link leads into the kind.
  -- By induction on a bound of the low end, which falls along the links.
  climb : {P : N → Type 0} → ((x : N) → Dec (P x)) → P a → (n : ℕ) (x : N) → In x (a ∷ A) → f x < n → ¬ P x →
      (x : N) × (y : N) × In x (a ∷ A) × In y (a ∷ A) × ¬ P x × P y × (f y < f x) × (f x < M y)
  climb d p zero x i h n = absurd (omega arith)
  climb d p (suc m) x (here e) h n = absurd (n (rw e p))
  climb d p (suc m) x (there i) h n =
      let (y, j, l, l') = k.linked x i in
      elim (d y) [ yes q ↦ (x, y, there i, j, n, q, l, l') | no q ↦ climb d p m y j (omega arith) q ]

  pub connected : (pos : N → ℕ) (n : ℕ) (x y : N) → In x (a ∷ A) → In y (a ∷ A) → pos x < n → n ≤ pos y →
      (x : N) × (y : N) × In x (a ∷ A) × In y (a ∷ A) × (pos x < n) × (n ≤ pos y) × (f y < M x)
  connected pos n x y i j h h' =
      elim (dec_lt (pos a) n) [
        | yes q ↦
            let (v, u, vi, ui, v', u', l, l') = climb (λ z. dec_lt (pos z) n) q (suc (f y)) y j (omega arith) (omega arith) in
            (u, v, ui, vi, u', omega arith, l')
        | no q ↦
            let (u, v, ui, vi, u', v', l, l') = climb (λ z. dec_le n (pos z)) (omega arith) (suc (f x)) x i (omega arith) (omega arith) in
            (u, v, ui, vi, omega arith, v', omega (arith, k.forward u ui))
      ]
