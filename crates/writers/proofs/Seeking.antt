-- The first element that passes a test, by its position; and what the test for a write of a value says.
-- Assumes nothing.
use Prim.Native.Nat.{ℕ, zero, suc, ◌<◌}
use mathlib.Core.Path.{◌≡◌, refl, ap, ◌∙◌}
use mathlib.Core.Bool.{Bool, true, false, cond}
use mathlib.Core.List.Memᴰ.{head as here}
use mathlib.Core.List.Memᴰ.{tail as there}
use mathlib.Core.List.{List, [], ◌∷◌, Memᴰ as In}
use native.Mathlib.Omega.{arith}
use lib.Dec.{eqb}
use lib.ListN.{length, get_or}
use borrow.Author.Tests.{eqb-true, eq-eqb}
use Rattle.lists.proofs.Tests.{both}
use Rattle.history.specs.declared.Op.{Op}
use Rattle.history.specs.Table.{is_write}
use Rattle.writers.specs.Writers.{writes, seek}

-- what the position says: the first element that passes stands there, or none does
pub data Seek (P : ℕ → Bool) (l : List ℕ) : ℕ → Type 0 where
  found : {k : ℕ} → k < length l → P (get_or l k 0) ≡ true → ((j : ℕ) → j < k → P (get_or l j 0) ≡ false) → Seek P l k
  none : {k : ℕ} → k ≡ length l → ((x : ℕ) → In x l → P x ≡ false) → Seek P l k

pub seek? : (P : ℕ → Bool) (l : List ℕ) → Seek P l (seek P l)
unfolding seek
seek? P [] = none refl (λ x m. elim m [ ])
seek? P (x ∷ l) = go (P x) refl (seek P l) (seek? P l)
  where
    first : P x ≡ false → (k : ℕ) → ((j : ℕ) → j < k → P (get_or l j 0) ≡ false) → (j : ℕ) → j < suc k → P (get_or (x ∷ l) j 0) ≡ false
    first e k h zero b = e
    first e k h (suc j) b = h j (omega arith)

    all : P x ≡ false → ((y : ℕ) → In y l → P y ≡ false) → (y : ℕ) → In y (x ∷ l) → P y ≡ false
    all e h y (here q) = ap P q ∙ e
    all e h y (there m) = h y m

    go : (b : Bool) → P x ≡ b → (k : ℕ) → Seek P l k → Seek P (x ∷ l) (cond b 0 (suc k))
    go true e k s = found {k = 0} (omega arith) e (λ j h. absurd (omega arith))
    go false e k (found h p n) = found {k = suc k} (omega arith) p (first e k n)
    go false e k (none h n) = none (ap suc h) (all e n)

-- where an element passes, the first that does is a position of one
pub seek_in : (P : ℕ → Bool) (l : List ℕ) {y : ℕ} → In y l → P y ≡ true → (seek P l < length l) × (P (get_or l (seek P l) 0) ≡ true)
seek_in P l {y} m e = go (seek P l) (seek? P l)
  where
    go : (k : ℕ) → Seek P l k → (k < length l) × (P (get_or l k 0) ≡ true)
    go k (found h p n) = (h, p)
    go k (none h n) = absurd (both e (n y m))

-- a write of a value
pub writes_is : (v : ℕ) (o : Op) → writes v o ≡ true → (is_write o ≡ true) × (o.value ≡ v)
unfolding writes
writes_is v o e = go (is_write o) refl e
  where
    go : (b : Bool) → is_write o ≡ b → cond b (eqb o.value v) false ≡ true → (is_write o ≡ true) × (o.value ≡ v)
    go true q k = (q, eqb-true _ _ k)
    go false q k = absurd (both k refl)

pub is_writes : (v : ℕ) (o : Op) → is_write o ≡ true → o.value ≡ v → writes v o ≡ true
unfolding writes
is_writes v o e f = rw e (eq-eqb o.value v f)
