-- Laws of `upto P n`, the positions below n at which P holds, rising.
-- Assumes nothing.
use Prim.Native.Nat.{ℕ, zero, suc, ◌+◌, ◌≤◌, ◌<◌}
use mathlib.Core.Path.{◌≡◌, refl, ◌∙◌}
use mathlib.Core.Bool.{Bool, true, false, not, cond}
use mathlib.Core.Logic.{◌⊎◌, inl, inr}
use mathlib.Core.List.Memᴰ
use mathlib.Core.List.Memᴰ.{head as here}
use mathlib.Core.List.{List, [], ◌∷◌, ◌++◌, append-nil, Memᴰ as In}
use native.Mathlib.Numerals.{add-one}
use native.Mathlib.Omega.{arith}
use lib.ListN.{length, length-append}
use Rattle.lists.specs.Lists.{keep, put}
use Rattle.lists.proofs.Tests.{both}
use Rattle.lists.proofs.Images.{keep_append}
use Rattle.positions.specs.Places.{pick_list, upto, and}

pub upto_more : (P : ℕ → Bool) (n : ℕ) → P n ≡ true → upto P (n + 1) ≡ upto P n ++ (n ∷ [])
unfolding upto
upto_more P n e = rw (add-one n, e)

pub upto_out : (P : ℕ → Bool) (n : ℕ) → P n ≡ false → upto P (n + 1) ≡ upto P n
unfolding upto
upto_out P n e = rw (add-one n, e)

pub upto_zero : (P : ℕ → Bool) → upto P 0 ≡ []
unfolding upto
upto_zero P = refl

step_length : (b : Bool) (n : ℕ) (l : List ℕ) → length l ≤ n → length (pick_list b (l ++ (n ∷ [])) l) ≤ suc n
step_length true n l h = rw (length-append) (omega arith)
step_length false n l h = omega arith

pub upto_length : (P : ℕ → Bool) (n : ℕ) → length (upto P n) ≤ n
unfolding upto
upto_length P zero = omega arith
upto_length P (suc n) = step_length (P n) n (upto P n) (upto_length P n)

-- a number is below another, or not
pub below : (m n : ℕ) → (m < n) ⊎ (n ≤ m)
below m zero = inr (omega arith)
below zero (suc n) = inl (omega arith)
below (suc m) (suc n) = go (below m n)
  where
    go : (m < n) ⊎ (n ≤ m) → (suc m < suc n) ⊎ (suc n ≤ suc m)
    go (inl h) = inl (omega arith)
    go (inr h) = inr (omega arith)

-- a conjunction of tests, as `and` writes it
pub no_cond : (b : Bool) → cond b false false ≡ false
no_cond true = refl
no_cond false = refl

pub cond_assoc : (a b c : Bool) → cond a (cond b c false) false ≡ cond (cond a b false) c false
cond_assoc true b c = refl
cond_assoc false b c = refl

pub cond_both : (a b : Bool) → cond a b false ≡ true → (a ≡ true) × (b ≡ true)
cond_both true b e = (refl, e)
cond_both false b e = absurd (both e refl)

pub upto_ext : {P Q : ℕ → Bool} (n : ℕ) → ((j : ℕ) → j < n → P j ≡ Q j) → upto P n ≡ upto Q n
unfolding upto
upto_ext zero h = refl
upto_ext {P} {Q} (suc n) h = rw (h n (omega arith), upto_ext {P = P} {Q = Q} n (λ j k. h j (omega arith)))

-- where P fails from m on, the positions end at m
pub upto_stop : (P : ℕ → Bool) (m n : ℕ) → m ≤ n → ((j : ℕ) → m ≤ j → j < n → P j ≡ false) → upto P n ≡ upto P m
unfolding upto
upto_stop P m zero k h = let e : m ≡ 0 = omega arith in rw e
upto_stop P m (suc n) k h = go (below n m) (λ i. upto_stop P m n i (λ j a b. h j a (omega arith)))
  where
    go : (n < m) ⊎ (m ≤ n) → (m ≤ n → upto P n ≡ upto P m) → upto P (suc n) ≡ upto P m
    go (inl i) ih = let e : m ≡ suc n = omega arith in rw e
    go (inr i) ih = rw (h n i (omega arith)) (ih i)

pub upto_empty : (P : ℕ → Bool) (n : ℕ) → ((j : ℕ) → j < n → P j ≡ false) → upto P n ≡ []
unfolding upto
upto_empty P n h = upto_stop P 0 n (omega arith) (λ j a b. h j b)

pub keep_upto : (P Q : ℕ → Bool) (n : ℕ) → keep Q (upto P n) ≡ upto (and P Q) n
unfolding upto keep put
keep_upto P Q zero = refl
keep_upto P Q (suc n) = go (P n) (Q n) refl (keep_upto P Q n)
  where
    go : (a b : Bool) → Q n ≡ b → keep Q (upto P n) ≡ upto (and P Q) n
        → keep Q (pick_list a (upto P n ++ (n ∷ [])) (upto P n)) ≡ pick_list (cond a b false) (upto (and P Q) n ++ (n ∷ [])) (upto (and P Q) n)
    go true true e ih = keep_append Q (upto P n) (n ∷ []) ∙ rw (e, ih)
    go true false e ih = keep_append Q (upto P n) (n ∷ []) ∙ rw (e, ih) (append-nil _)
    go false b e ih = ih

pub in_upto : (P : ℕ → Bool) (n : ℕ) {j : ℕ} → In j (upto P n) → (j < n) × (P j ≡ true)
unfolding upto
in_upto P (suc n) {j} m = go (P n) refl m (in_upto P n)
  where
    step : P n ≡ true → In j (upto P n) ⊎ In j (n ∷ []) → (In j (upto P n) → (j < n) × (P j ≡ true)) → (j < suc n) × (P j ≡ true)
    step e (inl k) ih = (omega (arith, (ih k).0), (ih k).1)
    step e (inr (here q)) ih = (omega arith, rw q e)
    step e (inr (Memᴰ.tail x7)) ih = elim x7 [ ]

    go : (b : Bool) → P n ≡ b → In j (pick_list b (upto P n ++ (n ∷ [])) (upto P n)) → (In j (upto P n) → (j < n) × (P j ≡ true)) → (j < suc n) × (P j ≡ true)
    go true e k ih = step e (Memᴰ.append_cases (upto P n) k) ih
    go false e k ih = (omega (arith, (ih k).0), (ih k).1)
in_upto P zero {j = j} m = elim m [ ]

-- each position is in one of two parts
pub upto_parts : (P Q : ℕ → Bool) (n : ℕ) → length (upto (and P Q) n) + length (upto (and P (λ j. not (Q j))) n) ≡ length (upto P n)
unfolding upto
upto_parts P Q zero = refl
upto_parts P Q (suc n) = go (P n) (Q n) (upto_parts P Q n)
  where
    A : List ℕ
    A = upto (and P Q) n

    B : List ℕ
    B = upto (and P (λ j. not (Q j))) n

    go : (a b : Bool) → length A + length B ≡ length (upto P n)
        → length (pick_list (cond a b false) (A ++ (n ∷ [])) A) + length (pick_list (cond a (not b) false) (B ++ (n ∷ [])) B) ≡ length (pick_list a (upto P n ++ (n ∷ [])) (upto P n))
    go true true ih = simp length-append (omega arith)
    go true false ih = simp length-append (omega arith)
    go false b ih = ih

pub upto_some : (P : ℕ → Bool) (n j : ℕ) → j < n → P j ≡ true → 0 < length (upto P n)
unfolding upto
upto_some P zero j h e = absurd (omega arith)
upto_some P (suc n) j h e = go (below j n) (P n) refl (λ k. upto_some P n j k e)
  where
    go : (j < n) ⊎ (n ≤ j) → (b : Bool) → P n ≡ b → (j < n → 0 < length (upto P n)) → 0 < length (pick_list b (upto P n ++ (n ∷ [])) (upto P n))
    go (inl k) true q ih = simp length-append (omega arith)
    go (inl k) false q ih = ih k
    go (inr k) true q ih = simp length-append (omega arith)
    go (inr k) false q ih = let i : j ≡ n = omega arith in absurd (both e (rw i q))

-- a position at which P holds is among them
pub in_place : (P : ℕ → Bool) (n : ℕ) {j : ℕ} → j < n → P j ≡ true → In j (upto P n)
unfolding upto
in_place P zero h e = absurd (omega arith)
in_place P (suc n) {j} h e = go (P n) refl (below j n) (λ k. in_place P n k e)
  where
    go : (b : Bool) → P n ≡ b → (j < n) ⊎ (n ≤ j) → (j < n → In j (upto P n)) → In j (pick_list b (upto P n ++ (n ∷ [])) (upto P n))
    go true q (inl k) ih = Memᴰ.append_left (n ∷ []) (ih k)
    go true q (inr k) ih = Memᴰ.append_right (upto P n) (here (omega arith))
    go false q (inl k) ih = ih k
    go false q (inr k) ih = let i : j ≡ n = omega arith in absurd (both e (rw i q))
