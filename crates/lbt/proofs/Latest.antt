-- The loop that looks for the last write that is not placed.
-- Assumes nothing.
use Prim.Native.Nat.{ℕ, zero, suc, ◌+◌, ◌-◌, ◌≤◌, ◌<◌}
use mathlib.Core.Path.{◌≡◌}
use mathlib.Core.Bool.{Bool, true, false}
use mathlib.Core.Logic.{◌⊎◌, inl, inr}
use mathlib.Core.List.{List}
use native.Mathlib.Omega.{arith}
use native.Mathlib.Numerals.{add-one}
use lib.ListN.{get_or}
use borrow.Author.Tests.{eq-eqb, ne_eqb}
use Rattle.positions.specs.Places.{latest}
use Rattle.positions.proofs.Places.{below, no_cond}
use Rattle.placing.specs.States.{is_free}
use Rattle.lbt.specs.Rounds.{open_write}

-- where the test fails from m on, the last position is below m
pub latest_stop : (Q : ℕ → Bool) (m n : ℕ) → m ≤ n → ((j : ℕ) → m ≤ j → j < n → Q j ≡ false) → latest Q n ≡ latest Q m
unfolding latest
latest_stop Q m zero k h = let e : m ≡ 0 = omega arith in rw e
latest_stop Q m (suc n) k h = go (below n m) (λ i. latest_stop Q m n i (λ j a b. h j a (omega arith)))
  where
    go : (n < m) ⊎ (m ≤ n) → (m ≤ n → latest Q n ≡ latest Q m) → latest Q (suc n) ≡ latest Q m
    go (inl i) ih = let e : m ≡ suc n = omega arith in rw e
    go (inr i) ih = rw (h n i (omega arith)) (ih i)

pub latest_out : (Q : ℕ → Bool) (k : ℕ) → 0 < k → Q (k - 1) ≡ false → latest Q k ≡ latest Q (k - 1)
latest_out Q k h e = latest_stop Q (k - 1) k (omega arith) (λ j a b. let q : j ≡ k - 1 = omega arith in rw q e)

pub latest_in : (Q : ℕ → Bool) (k : ℕ) → 0 < k → Q (k - 1) ≡ true → latest Q k ≡ k - 1 + 1
unfolding latest
latest_in Q k h e = let q : k ≡ suc (k - 1) = omega arith in go k (k - 1) q e
  where
    go : (k i : ℕ) → k ≡ suc i → Q i ≡ true → latest Q k ≡ i + 1
    go k i q e = rw (q, add-one i, e)

-- one position down: it is placed, a read, or the write
module _ (writer placed : List ℕ) (k : ℕ) (h : 0 < k) where
  pub new_placed : (get_or placed (k - 1) 0 ≡ 0 → ⊥) → latest (open_write writer placed) k ≡ latest (open_write writer placed) (k - 1)
  new_placed n = latest_out (open_write writer placed) k h (rw (ne_eqb (get_or placed (k - 1) 0) 0 n))

  pub new_read : (get_or writer (k - 1) 0 ≡ k - 1 → ⊥) → latest (open_write writer placed) k ≡ latest (open_write writer placed) (k - 1)
  new_read n = latest_out (open_write writer placed) k h (rw (ne_eqb (get_or writer (k - 1) 0) (k - 1) n) (no_cond (is_free placed (k - 1))))

  pub new_write : get_or placed (k - 1) 0 ≡ 0 → get_or writer (k - 1) 0 ≡ k - 1 → latest (open_write writer placed) k ≡ k - 1 + 1
  new_write a b = latest_in (open_write writer placed) k h (rw (eq-eqb (get_or placed (k - 1) 0) 0 a) (eq-eqb (get_or writer (k - 1) 0) (k - 1) b))
