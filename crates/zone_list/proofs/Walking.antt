-- The walk along the chain of a write's reads, which finds the smallest finish and the largest start of its cluster.
-- Assumes nothing.
use Prim.Native.Nat.{ℕ, zero, suc, ◌+◌, ◌-◌, ◌%◌, ◌≤◌, ◌<◌, min, max}
use mathlib.Core.Path.{◌≡◌, refl, ap, ap₂, sym, ◌∙◌}
use mathlib.Core.Bool.{Bool, true, false}
use mathlib.Core.Logic.{◌⊎◌, inl, inr}
use mathlib.Core.List.{List, [], ◌∷◌, ◌++◌, Memᴰ as In}
use native.Mathlib.Omega.{arith}
use lib.ListN.{length, get_or}
use borrow.Author.Tests.{eqb-true}
use Rattle.lists.proofs.Tests.{test, both}
use Rattle.history.specs.declared.Op.{Op}
use Rattle.methods.specs.declared.Zone.{Zone}
use Rattle.methods.specs.Extremes.{least, greatest}
use Rattle.positions.specs.Places.{upto, latest}
use Rattle.witnesses.proofs.Extremes.{least_first, greatest_first, greatest_is}
use Rattle.positions.specs.Columns.{mine, read_of, Linked}
use Rattle.positions.proofs.Places.{below, in_upto, upto_more, upto_stop, upto_zero}
use Rattle.positions.proofs.Latest.{latest_le, latest_none, latest_at}
use Rattle.writers.specs.Writers.{row_op}
use Rattle.zone_list.specs.Stamps.{stamps_at, Timely}
use Rattle.zone_list.proofs.Clusters.{least_end, greatest_more}

module _ (t rows writer : List ℕ) (w : ℕ) where
  abbrev P : ℕ → Bool
  P = read_of writer w

  abbrev finish_at : ℕ → ℕ
  finish_at j = (row_op t rows j).finish

  abbrev start_at : ℕ → ℕ
  start_at j = (row_op t rows j).start

  -- the reads below a position end with the latest
  upto_latest : (m : ℕ) → upto P m ≡ upto P (latest P m)
  upto_latest m = upto_stop P (latest P m) m (latest_le P m) (λ j a b. latest_none P m j a b)

  -- the reads below one more than the latest
  upto_next : (m i : ℕ) → latest P m ≡ i + 1 → upto P (latest P m) ≡ upto P (latest P i) ++ (i ∷ [])
  upto_next m i e = rw (e, upto_more P i is_read_lem) (ap (λ (l : List ℕ). l ++ (i ∷ [])) (upto_latest i))
    where
      is_read_lem : P i ≡ true
      is_read_lem = let q : i ≡ latest P m - 1 = omega arith in rw q (latest_at P m (omega arith))

  -- the position of the last start is within
  pub last_in : (chain prev : List ℕ) → Linked writer chain prev → length writer ≡ length rows → w < length rows → get_or writer w 0 ≡ w → max w (get_or chain w 0 - 1) < length rows
  last_in chain prev c long h own = omega (arith, c.lasts w (omega arith) own, latest_le P (length writer), long)

  -- what is found so far, and the reads below k, are the whole
  pub record Walked (k finish : ℕ) : Type 0 where
    pub from : (m : ℕ) × (m ≤ length writer) × (k ≡ latest P m)
    pub finishes : least finish_at (finish_at w) (upto P (length writer)) ≡ least finish_at finish (upto P k)

  pub walked_none : (k : ℕ) → k ≡ latest P (length writer) → (finish : ℕ) → finish ≡ finish_at w → Walked k finish
  walked_none k e finish p =
      record {
        from = (length writer, omega arith, e);
        finishes = rw (p, e) (ap (least finish_at (finish_at w)) (upto_latest (length writer)));
      }

  module _ (k finish : ℕ) (g : Walked k finish) where
    pub walked_in : k ≤ length writer
    walked_in = omega (arith, g.from.2, g.from.1, latest_le P g.from.0)

    pub walked_end : k ≤ 0 → finish ≡ (stamps_at t rows writer w).finish
    unfolding least
    walked_end h = let q : k ≡ 0 = omega arith in sym (g.finishes ∙ rw (q, upto_zero P) refl)

    module _ (chain prev : List ℕ) (c : Linked writer chain prev) (h : 0 < k) (i : ℕ) (d : i ≡ k - 1) where
      is_read_lem : P i ≡ true
      is_read_lem = let e : i ≡ latest P g.from.0 - 1 = d ∙ ap (λ (x : ℕ). x - 1) g.from.2 in rw e (latest_at P g.from.0 (omega (arith, g.from.2)))

      back : get_or prev i 0 ≡ latest P i
      back = c.prevs w i (omega (arith, walked_in)) is_read_lem

      -- the chain falls
      pub walked_less : get_or prev i 0 < k
      walked_less = omega (arith, back, latest_le P i)

      pub walked_more : (k' finish' : ℕ) → k' ≡ get_or prev i 0 → finish' ≡ min finish (finish_at i) → Walked k' finish'
      walked_more k' finish' e p =
          let b : k' ≡ latest P i = e ∙ back in
          let n : upto P k ≡ upto P (latest P i) ++ (i ∷ []) = rw g.from.2 (upto_next g.from.0 i (omega (arith, g.from.2))) in
          record {
            from = (i, omega (arith, walked_in), b);
            finishes = g.finishes ∙ ap (least finish_at finish) n ∙ least_end finish_at finish (upto P (latest P i)) i ∙ rw (p, b) refl;
          }

  module _ (finish : List ℕ) (g : Timely t rows finish writer) (long : length writer ≡ length rows) (h : w < length rows) (own : get_or writer w 0 ≡ w) where
    mine_of : (j : ℕ) → P j ≡ true → mine writer w j ≡ true
    mine_of j e = go (test (mine writer w j))
      where
        go : (mine writer w j ≡ true) ⊎ (mine writer w j ≡ false) → mine writer w j ≡ true
        go (inl m) = m
        go (inr m) = let f : P j ≡ false = rw m refl in absurd (both e f)

    -- no read finishes below a write whose finish is even
    pub whole_finish : get_or finish w 0 % 2 ≡ 0 → finish_at w ≡ (stamps_at t rows writer w).finish
    whole_finish e =
        sym (least_first finish_at (finish_at w) (upto P (length writer)) (
        λ j m.
        let k = in_upto P (length writer) m in
        g.whole w j (omega (arith, k.0, long)) (eqb-true (get_or writer j 0) w (mine_of j k.1)) own e
        ))

    -- the last read, or the write, starts last
    pub latest_start : (k : ℕ) → k ≡ latest P (length writer) → start_at (max w (k - 1)) ≡ (stamps_at t rows writer w).start
    unfolding greatest
    latest_start k e = go k refl
      where
        S : ℕ
        S = greatest start_at (start_at w) (upto P (length writer))

        all : S ≡ greatest start_at (start_at w) (upto P k)
        all = ap (greatest start_at (start_at w)) (upto_latest (length writer) ∙ ap (upto P) (sym e))

        later : (i : ℕ) → i < length rows → max (start_at w) (start_at i) ≡ start_at (max w i)
        later i l = pick (below w i)
          where
            pick : (w < i) ⊎ (i ≤ w) → max (start_at w) (start_at i) ≡ start_at (max w i)
            pick (inl a) = let q : max w i ≡ i = omega arith in rw q (omega (arith, g.rising w i (omega arith) l))
            pick (inr a) = let q : max w i ≡ w = omega arith in rw q (omega (arith, g.rising i w a h))

        -- the reads before the last start no later
        before : (i : ℕ) → i < length rows → max (greatest start_at (start_at w) (upto P (latest P i))) (start_at i) ≡ max (start_at w) (start_at i)
        before i l = pick (greatest_is start_at (start_at w) (upto P (latest P i)))
          where
            G : ℕ
            G = greatest start_at (start_at w) (upto P (latest P i))

            pick : (G ≡ start_at w) ⊎ ((x : ℕ) × In x (upto P (latest P i)) × (G ≡ start_at x)) → max G (start_at i) ≡ max (start_at w) (start_at i)
            pick (inl q) = rw q refl
            pick (inr (x, m, q)) =
                let k = in_upto P (latest P i) m in
                omega (arith, greatest_first start_at (start_at w) (upto P (latest P i)), q, g.rising x i (omega (arith, k.0, latest_le P i)) l)

        go : (n : ℕ) → k ≡ n → start_at (max w (n - 1)) ≡ S
        go zero q = let m : max w (0 - 1) ≡ w = omega arith in rw m (sym (all ∙ rw (q, upto_zero P) refl))
        go (suc i) q =
            let a : latest P (length writer) ≡ i + 1 = omega (arith, e) in
            let l : i < length rows = omega (arith, latest_le P (length writer), long) in
            let m : suc i - 1 ≡ i = omega arith in
            rw m
            (sym (all
            ∙ ap (greatest start_at (start_at w)) (ap (upto P) e ∙ upto_next (length writer) i a)
            ∙ greatest_more start_at (start_at w) (upto P (latest P i)) i
            ∙ before i l
            ∙ later i l))

    -- the two of them, from what the code reads
    pub zone_is : (chain prev : List ℕ) → Linked writer chain prev → (last : ℕ) → last ≡ max w (get_or chain w 0 - 1) → (o : Op) → o ≡ row_op t rows last → (f : ℕ) → f ≡ (stamps_at t rows writer w).finish →
        (z : Zone) → z ≡ record { finish = f; start = o.start } → z ≡ stamps_at t rows writer w
    zone_is chain prev c last d o e f p z q =
        let s : o.start ≡ (stamps_at t rows writer w).start =
        ap (λ (x : Op). x.start) e ∙ ap start_at d ∙ latest_start (get_or chain w 0) (c.lasts w (omega (arith, long)) own) in
        q ∙ ap₂ (λ (x y : ℕ). the_zone x y) p s
      where
        the_zone : ℕ → ℕ → Zone
        the_zone x y = record { finish = x; start = y }
