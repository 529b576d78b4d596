-- What is gathered and then sorted by its keys: the rows of a register by rising start, and the writes by falling finish.
-- Assumes nothing.
use Prim.Native.Nat.{ℕ, zero, suc, ◌+◌, ◌≤◌}
use mathlib.Core.Path.{◌≡◌, refl, sym, ap, ◌∙◌}
use mathlib.Core.Logic.{◌⊎◌, inl, inr}
use mathlib.Core.Bool.{Bool, true, false}
use mathlib.Core.List.{List, [], ◌∷◌, ◌++◌, append-nil}
use native.Mathlib.Omega.{arith}
use lib.Dec.{leb}
use lib.ListN.{length, get_or, take, drop}
use lib.Seq.{take_at, length-take-le}
use borrow.Author.Tests.{leb-true, leb-false, le-leb, lt-leb}
use Rattle.lists.specs.Lists.{from, up_to, put, keep}
use Rattle.lists.specs.Sorts.{sort}
use Rattle.lists.proofs.Tests.{test}
use Rattle.lists.proofs.Sorts.{sort_length}
use Rattle.lists.proofs.Images.{keep_append, sort_ext}
use Rattle.sorting.specs.Keys.{rises}
use Rattle.positions.specs.Places.{pick_list, upto}
use Rattle.positions.specs.Columns.{Cols, size, is_own, by_finish}
use Rattle.positions.proofs.Places.{in_upto}
use Rattle.columns.specs.Gathered.{Gathered}
use Rattle.columns.specs.Falls.{no_sooner, falling_of, Turned}

-- the numbers from i on, and one more
from_last : (i n : ℕ) → from i (suc n) ≡ from i n ++ ((i + n) ∷ [])
unfolding from
from_last i zero = let e : i ≡ i + 0 = omega arith in ap (λ (k : ℕ). k ∷ []) e
from_last i (suc n) =
    let e : suc i + n ≡ i + suc n = omega arith in
    ap (λ (l : List ℕ). i ∷ l) (from_last (suc i) n ∙ ap (λ (k : ℕ). from (suc i) n ++ (k ∷ [])) e)

-- the numbers below n that pass are the positions at which the test holds
keep_below : (P : ℕ → Bool) (n : ℕ) → keep P (up_to n) ≡ upto P n
unfolding from keep upto put
keep_below P zero = refl
keep_below P (suc n) =
    let e : 0 + n ≡ n = omega arith in
    ap (keep P) (from_last 0 n ∙ ap (λ (k : ℕ). from 0 n ++ (k ∷ [])) e) ∙ keep_append P (from 0 n) (n ∷ []) ∙ go (P n) (keep_below P n)
  where
    go : (b : Bool) → keep P (from 0 n) ≡ upto P n → keep P (from 0 n) ++ put b n [] ≡ pick_list b (upto P n ++ (n ∷ [])) (upto P n)
    go true ih = ap (λ (l : List ℕ). l ++ (n ∷ [])) ih
    go false ih = append-nil (keep P (from 0 n)) ∙ ih

module _ {P : ℕ → Bool} {Key : ℕ → ℕ → Type 0} {n m : ℕ} {list₀ keys list : List ℕ} (room : n ≤ length list₀) (g : Gathered P Key n list₀ m keys list) where
  -- as many as are counted
  pub gathered_part : m ≡ length (take m list)
  gathered_part = sym (length-take-le m list (omega (arith, g.few, g.long)))

  gathered_count : m ≡ length (upto P n)
  gathered_count = gathered_part ∙ ap length g.front

  -- sorted by the keys, where these are as another test of two positions
  gathered_sort : (le : ℕ → ℕ → Bool) → ((x y : ℕ) → Key x (get_or keys x 0) → Key y (get_or keys y 0) → rises keys x y ≡ le x y) → (new : List ℕ)
      → new ≡ sort (rises keys) (take m list) → new ≡ sort le (upto P n)
  gathered_sort le u new q =
      q ∙ ap (sort (rises keys)) g.front
      ∙ sort_ext (rises keys) le (upto P n) (λ x y a b. u x y (g.keyed x (in_upto P n a).0) (g.keyed y (in_upto P n b).0))

-- The writes of two columns.
module _ (finish writer : List ℕ) where
  -- keys compare as the finishes do, the other way round
  turned : (a b f g k : ℕ) → a + f ≡ k → b + g ≡ k → leb a b ≡ leb g f
  turned a b f g k p q = go (test (leb g f))
    where
      go : (leb g f ≡ true) ⊎ (leb g f ≡ false) → leb a b ≡ leb g f
      go (inl e) = le-leb a b (omega (arith, leb-true g f e)) ∙ sym e
      go (inr e) = lt-leb a b (omega (arith, leb-false g f e)) ∙ sym e

  pub falls_sorted : {m : ℕ} {list₀ keys list : List ℕ} → length writer ≤ length list₀
      → Gathered (is_own writer) (Turned finish) (length writer) list₀ m keys list
      → (new : List ℕ) → new ≡ sort (rises keys) (take m list)
      → (m ≡ length (falling_of finish writer)) × (take m (new ++ drop m list) ≡ falling_of finish writer)
  unfolding falling_of
  falls_sorted {m} {list₀} {keys} {list} room g new q = (count, take_at new (drop m list) m (ap length sorted ∙ sym count) ∙ sorted)
    where
      count : m ≡ length (sort (no_sooner finish) (upto (is_own writer) (length writer)))
      count = gathered_count room g ∙ sym (sort_length (no_sooner finish) (upto (is_own writer) (length writer)))

      sorted : new ≡ sort (no_sooner finish) (upto (is_own writer) (length writer))
      sorted = gathered_sort room g (no_sooner finish) (λ x y a b. turned (get_or keys x 0) (get_or keys y 0) (get_or finish x 0) (get_or finish y 0) 18446744073709551615 a b) new q

-- the writes by falling finish are those of the columns
pub falls_finish : (C : Cols) → length C.writer ≡ size C → falling_of C.finish C.writer ≡ by_finish C
unfolding falling_of by_finish
falls_finish C e = rw e
