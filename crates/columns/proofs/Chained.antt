-- The loop that makes the chains, in one pass over the writers.
-- Assumes nothing.
use Prim.Native.Nat.{ℕ, ◌+◌, ◌≤◌, ◌<◌}
use mathlib.Core.Path.{◌≡◌, ap, sym, ◌∙◌}
use mathlib.Core.Bool.{Bool, true, false, cond}
use mathlib.Core.Logic.{◌⊎◌, inl, inr}
use mathlib.Core.List.{List}
use native.Mathlib.Omega.{arith}
use native.Mathlib.Numerals.{add-one}
use lib.ListN.{length, get_or, set, length-set}
use lib.Seq.{get_or-set_same, get_or-set_other}
use lib.Dec.{eqb}
use borrow.Author.Tests.{eqb-true, eqb-false, eq-eqb, ne_eqb}
use Rattle.lists.proofs.Tests.{test, both}
use Rattle.positions.specs.Places.{latest}
use Rattle.positions.specs.Columns.{mine, read_of, Linked}
use Rattle.positions.proofs.Places.{below, no_cond, cond_both}

-- a test that leads to nothing either way
-- the last position, one further
latest_one : (Q : ℕ → Bool) (i : ℕ) → latest Q (i + 1) ≡ cond (Q i) (i + 1) (latest Q i)
unfolding latest
latest_one Q i = rw (add-one i)

-- the first i operations are in the chains
pub record Chained (writer last prev : List ℕ) (i : ℕ) : Type 0 where
  pub within : i ≤ length writer
  pub lasting : length last ≡ length writer
  pub previous : length prev ≡ length writer
  pub lasts : (w : ℕ) → w < length writer → get_or last w 0 ≡ latest (read_of writer w) i
  pub prevs : (w j : ℕ) → j < i → read_of writer w j ≡ true → get_or prev j 0 ≡ latest (read_of writer w) j

module _ (writer : List ℕ) where
  pub chain_none : (last prev : List ℕ) → length last ≡ length writer → ((j : ℕ) → j < length writer → get_or last j 0 ≡ 0) → length prev ≡ length writer
      → Chained writer last prev 0
  unfolding latest
  chain_none last prev l z p =
      record {
        within = omega arith;
        lasting = l;
        previous = p;
        lasts = z;
        prevs = λ w j h q. absurd (omega arith);
      }

  pub chain_end : (last prev : List ℕ) (i : ℕ) → length writer ≤ i → Chained writer last prev i → Linked writer last prev
  chain_end last prev i h g =
      let e : length writer ≡ i = omega (arith, g.within) in
      record {
        lasting = g.lasting;
        previous = g.previous;
        lasts = λ w a b. rw e (g.lasts w a);
        prevs = λ w j a b. g.prevs w j (omega arith) b;
      }

  module _ (last prev : List ℕ) (i : ℕ) (h : i < length writer) (g : Chained writer last prev i) where
    -- below i + 1
    same_or_under : (j : ℕ) → j < i + 1 → (j < i) ⊎ (j ≡ i)
    same_or_under j a = go (below j i)
      where
        go : (j < i) ⊎ (i ≤ j) → (j < i) ⊎ (j ≡ i)
        go (inl b) = inl b
        go (inr b) = inr (omega arith)

    -- both of two tests
    -- a write is in no chain
    pub chain_write : get_or writer i 0 ≡ i → Chained writer last prev (i + 1)
    chain_write e =
        record {
          within = omega arith;
          lasting = g.lasting;
          previous = g.previous;
          lasts = λ w a. g.lasts w a ∙ sym (latest_one (read_of writer w) i ∙ rw (out w));
          prevs = λ w j a q. go w j q (same_or_under j a);
        }
      where
        out : (w : ℕ) → read_of writer w i ≡ false
        out w = rw (eq-eqb (get_or writer i 0) i e) (no_cond (mine writer w i))

        go : (w j : ℕ) → read_of writer w j ≡ true → (j < i) ⊎ (j ≡ i) → get_or prev j 0 ≡ latest (read_of writer w) j
        go w j q (inl b) = g.prevs w j b q
        go w j q (inr b) = absurd (both (rw b at q) (out w))

    -- a read is the last of its write's
    pub chain_read : (get_or writer i 0 ≡ i → ⊥) → get_or writer i 0 < length writer
        → Chained writer (set last (get_or writer i 0) (i + 1)) (set prev i (get_or last (get_or writer i 0) 0)) (i + 1)
    chain_read n k =
        record {
          within = omega arith;
          lasting = length-set last v (i + 1) ∙ g.lasting;
          previous = length-set prev i (get_or last v 0) ∙ g.previous;
          lasts = λ w a. after w a (test (eqb v w));
          prevs = λ w j a q. go w j q (same_or_under j a);
        }
      where
        v : ℕ
        v = get_or writer i 0

        after : (w : ℕ) → w < length writer → (eqb v w ≡ true) ⊎ (eqb v w ≡ false) → get_or (set last v (i + 1)) w 0 ≡ latest (read_of writer w) (i + 1)
        after w a (inl q) =
            let e : v ≡ w = eqb-true v w q in
            let l : v < length last = omega (arith, g.lasting, k) in
            ap (λ (x : ℕ). get_or (set last v (i + 1)) x 0) (sym e) ∙ get_or-set_same last v (i + 1) 0 l ∙ sym (latest_one (read_of writer w) i ∙ rw (q, ne_eqb (get_or writer i 0) i n))
        after w a (inr q) =
            get_or-set_other last v w (i + 1) 0 (λ e. eqb-false v w q (sym e)) ∙ g.lasts w a ∙ sym (latest_one (read_of writer w) i ∙ rw q)

        go : (w j : ℕ) → read_of writer w j ≡ true → (j < i) ⊎ (j ≡ i) → get_or (set prev i (get_or last v 0)) j 0 ≡ latest (read_of writer w) j
        go w j q (inl b) = get_or-set_other prev i j (get_or last v 0) 0 (λ e. omega arith) ∙ g.prevs w j b q
        go w j q (inr b) =
            let e : v ≡ w = eqb-true v w (cond_both _ _ (rw b at q)).0 in
            let l : i < length prev = omega (arith, g.previous) in
            rw b (get_or-set_same prev i (get_or last v 0) 0 l ∙ g.lasts v k ∙ ap (λ (x : ℕ). latest (read_of writer x) i) e)
