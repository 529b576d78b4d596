-- Positions by row, where the rows are the numbers below their count: each position stands at the place of its row.
-- Assumes nothing.
use Prim.Native.Nat.{ℕ, zero, suc, ◌+◌, ◌-◌, ◌≤◌, ◌<◌}
use mathlib.Core.Path.{◌≡◌, sym, ap, ◌∙◌}
use mathlib.Core.Logic.{◌≢◌, ◌⊎◌, inl, inr}
use mathlib.Core.List.{List}
use native.Mathlib.Omega.{arith}
use native.Mathlib.Nat.{eq-or-lt_of_le}
use borrow.Author.Tests.{leb-true}
use lib.ListN.{length, get_or, set, length-set}
use lib.Seq.{ext_get_or, get_or-set_same, get_or-set_other}
use Rattle.lists.specs.Lists.{up_to}
use Rattle.lists.specs.Pairs.{Pairs}
use Rattle.lists.specs.Sorts.{sort}
use Rattle.lists.proofs.Pairs.{pairs_map, pairs_both}
use Rattle.lists.proofs.Images.{get_d_in, pairs_at}
use Rattle.lists.proofs.Ranges.{in_below, from_rises, from_length}
use Rattle.lists.proofs.Sorts.{in_sort, sort_length, sort_apart}
use Rattle.lists.proofs.Merges.{sort_rises}
use Rattle.sorting.specs.Keys.{rises}
use Rattle.sorting.proofs.Keys.{rises_order}
use Rattle.ranking.specs.Ranked.{RowsDiffer}

-- the first i positions stand at the places of their rows
pub record Filling (rows : List ℕ) (i : ℕ) (list : List ℕ) : Type 0 where
  pub long : length list ≡ length rows
  pub inside : (a : ℕ) → a < i → get_or rows a 0 < length rows
  pub there : (a : ℕ) → a < i → get_or list (get_or rows a 0) 0 ≡ a

module _ (rows : List ℕ) (d : RowsDiffer rows) where
  pub fill_none : (list : List ℕ) → length list ≡ length rows → Filling rows 0 list
  fill_none list e = record { long = e; inside = λ a l. absurd (omega arith); there = λ a l. absurd (omega arith) }

  pub fill_more : (i : ℕ) (list : List ℕ) → Filling rows i list → i < length rows → get_or rows i 0 < length rows
      → Filling rows (i + 1) (set list (get_or rows i 0) i)
  fill_more i list g l m =
      record {
        long = length-set list (get_or rows i 0) i ∙ g.long;
        inside = λ a k. within a (eq-or-lt_of_le (omega arith));
        there = λ a k. stands a (eq-or-lt_of_le (omega arith));
      }
    where
      within : (a : ℕ) → (a ≡ i) ⊎ (a < i) → get_or rows a 0 < length rows
      within a (inl e) = rw e m
      within a (inr k) = g.inside a k

      stands : (a : ℕ) → (a ≡ i) ⊎ (a < i) → get_or (set list (get_or rows i 0) i) (get_or rows a 0) 0 ≡ a
      stands a (inl e) = rw e (get_or-set_same list (get_or rows i 0) i 0 (omega (arith, g.long)))
      stands a (inr k) = get_or-set_other list (get_or rows i 0) (get_or rows a 0) i 0 (d a i k l) ∙ g.there a k

  -- THE POSITIONS BY ROW
  module _ (i : ℕ) (list : List ℕ) (g : Filling rows i list) (all : length rows ≤ i) where
    abbrev n : ℕ
    n = length rows

    abbrev S : List ℕ
    S = sort (rises rows) (up_to n)

    long : length S ≡ n
    long = sort_length (rises rows) (up_to n) ∙ from_length 0 n

    within : (k : ℕ) → k < n → get_or S k 0 < n
    within k l = in_below n (in_sort (rises rows) (up_to n) (get_d_in S 0 k (omega (arith, long))))

    -- the row at a place
    abbrev v : ℕ → ℕ
    v k = get_or rows (get_or S k 0) 0

    apart : Pairs (λ a b. get_or rows a 0 ≢ get_or rows b 0) (up_to n)
    apart = pairs_map (from_rises 0 n) (λ a b m k l. d a b l (in_below n k))

    rise : Pairs (λ a b. get_or rows a 0 < get_or rows b 0) S
    rise =
        pairs_map
        (pairs_both (sort_rises (rises rows) (rises_order rows) (up_to n)) (sort_apart (rises rows) (λ a b. get_or rows a 0 ≢ get_or rows b 0) (λ x y u e. u (sym e)) apart))
        (λ a b m k p. omega (arith, leb-true (get_or rows a 0) (get_or rows b 0) p.0, p.1))

    -- so many places on, a row is higher by as many at least
    higher : (k j : ℕ) → k + j < n → v k + j ≤ v (k + j)
    higher k zero l = let e : k + 0 ≡ k = omega arith in rw e (omega arith)
    higher k (suc j) l =
        omega (arith, higher k j (omega arith), pairs_at {R = λ a b. get_or rows a 0 < get_or rows b 0} 0 rise (k + j) (k + suc j) (omega arith) (omega (arith, long)))

    is : (k : ℕ) → k < n → v k ≡ k
    is k l =
        let last : k + (n - 1 - k) < n = omega arith in
        let first : 0 + k ≡ k = omega arith in
        omega (arith, rw first at (higher 0 k (omega arith)), higher k (n - 1 - k) last, g.inside (get_or S (k + (n - 1 - k)) 0) (omega (arith, within (k + (n - 1 - k)) last)))

    pub filled : list ≡ sort (rises rows) (up_to (length rows))
    filled = ext_get_or 0 list S (g.long ∙ sym long) (λ k l. let m : k < n = omega (arith, g.long) in ap (λ z. get_or list z 0) (sym (is k m)) ∙ g.there (get_or S k 0) (omega (arith, within k m)))
