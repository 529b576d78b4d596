-- The numbers from one on: which they are, and that they rise.
-- Assumes nothing.
use Prim.Native.Nat.{ℕ, zero, suc, ◌+◌, ◌≤◌, ◌<◌}
use mathlib.Core.Path.{◌≡◌, refl, sym, ap, ◌∙◌}
use mathlib.Core.Logic.{◌⊎◌, inl, inr}
use mathlib.Core.List.Memᴰ.{head as here}
use mathlib.Core.List.Memᴰ.{tail as there}
use mathlib.Core.List.{List, [], ◌∷◌, ◌++◌, map, Memᴰ as In}
use native.Mathlib.Nat.{eq-or-lt_of_le}
use native.Mathlib.Omega.{arith}
use native.Mathlib.Numerals.{add-one}
use lib.ListN.{length, get_or, length-map}
use lib.Seq.{ext_get_or}
use Rattle.lists.specs.Lists.{from, up_to}
use Rattle.lists.proofs.Images.{get_d_map}
use Rattle.lists.specs.Pairs.{Pairs, nil, cons}

from_in : (i n q : ℕ) → i ≤ q → q < i + n → In q (from i n)
unfolding from
from_in i zero q l h = absurd (omega arith)
from_in i (suc n) q l h = go (eq-or-lt_of_le l) (from_in (suc i) n q)
  where
    go : (i ≡ q) ⊎ (i < q) → (suc i ≤ q → q < suc i + n → In q (from (suc i) n)) → In q (i ∷ from (suc i) n)
    go (inl e) ih = here (sym e)
    go (inr k) ih = there (ih k (omega arith))

in_from : (i n q : ℕ) → In q (from i n) → (i ≤ q) × (q < i + n)
unfolding from
in_from i (suc n) q (here e) = omega arith
in_from i (suc n) q (there m) = let h = in_from (suc i) n q m in omega arith
in_from i zero q x' = elim x' [ ]

pub below_in : (n : ℕ) {q : ℕ} → q < n → In q (up_to n)
below_in n {q} h = from_in 0 n q (omega arith) (omega arith)

pub in_below : (n : ℕ) {q : ℕ} → In q (up_to n) → q < n
in_below n {q} m = let h = in_from 0 n q m in omega arith

pub from_rises : (i n : ℕ) → Pairs (λ x y. x < y) (from i n)
unfolding from
from_rises i zero = nil
from_rises i (suc n) = cons {x = i} {l = from (suc i) n} (λ y m. omega (arith, in_from (suc i) n y m)) (from_rises (suc i) n)

pub from_length : (i n : ℕ) → length (from i n) ≡ n
unfolding from
from_length i zero = refl
from_length i (suc n) = ap suc (from_length (suc i) n)

pub from_at : (i n j : ℕ) → j < n → get_or (from i n) j 0 ≡ i + j
unfolding from
from_at i zero j h = absurd (omega arith)
from_at i (suc n) zero h = omega arith
from_at i (suc n) (suc j) h = from_at (suc i) n j (omega arith) ∙ omega arith

-- one number more
from_more : (i n : ℕ) → from i (suc n) ≡ from i n ++ ((i + n) ∷ [])
unfolding from
from_more i zero = let e : i + 0 ≡ i = omega arith in rw e
from_more i (suc n) = let e : i + suc n ≡ suc i + n = omega arith in rw (from_more (suc i) n, e)

pub up_to_more : (n : ℕ) → up_to (n + 1) ≡ up_to n ++ (n ∷ [])
up_to_more n = let e : 0 + n ≡ n = omega arith in rw (add-one n, from_more 0 n, e)

-- the elements of a list, by their positions
pub at_each : (l : List ℕ) → map (λ i. get_or l i 0) (up_to (length l)) ≡ l
at_each l =
    ext_get_or 0 _ l size (λ i h. get_d_map (λ j. get_or l j 0) (up_to (length l)) i 0 0 (long i h) ∙ ap (λ (j : ℕ). get_or l j 0) (from_at 0 (length l) i (short i h) ∙ omega arith))
  where
    size : length (map (λ i. get_or l i 0) (up_to (length l))) ≡ length l
    size = length-map (up_to (length l)) (λ i. get_or l i 0) ∙ from_length 0 (length l)

    short : (i : ℕ) → i < length (map (λ i. get_or l i 0) (up_to (length l))) → i < length l
    short i h = omega (arith, size)

    long : (i : ℕ) → i < length (map (λ i. get_or l i 0) (up_to (length l))) → i < length (up_to (length l))
    long i h = omega (arith, size, from_length 0 (length l))
