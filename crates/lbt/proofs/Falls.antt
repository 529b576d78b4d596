-- The candidates by position (000, figure 2, line 3): those of the writes by falling finish that are not placed and precede no write.
-- Assumes nothing.
use Prim.Native.Nat.{ℕ, ◌-◌, ◌≤◌, ◌<◌}
use mathlib.Core.Path.{◌≡◌, refl, ap, sym, ◌∙◌}
use mathlib.Core.Bool.{Bool, true, false, cond}
use mathlib.Core.Logic.{◌⊎◌, inl, inr}
use mathlib.Core.List.{List, Memᴰ as In}
use native.Mathlib.Omega.{arith}
use lib.ListN.{get_or}
use lib.Dec.{leb, ltb}
use borrow.Author.Tests.{leb-true, leb-false, le-leb, lt-leb, ltb-true, ltb-false, eqb-true, not-true, not-false}
use Rattle.lists.specs.Lists.{keep}
use Rattle.lists.specs.Sorts.{sort}
use Rattle.lists.specs.Pairs.{Pairs}
use Rattle.lists.proofs.Tests.{both}
use Rattle.lists.proofs.Every.{All?, each, some_not, all?}
use Rattle.lists.proofs.Sorts.{in_sort, sort_ordered}
use Rattle.lists.proofs.Images.{sort_map, sort_keep, sort_ext}
use Rattle.history.specs.declared.Op.{Op}
use Rattle.history.specs.Table.{is_write}
use Rattle.methods.specs.Place.{starts_by, writes}
use Rattle.methods.specs.Lbt.{ends_later, free, candidates}
use Rattle.positions.specs.Places.{upto, and, latest}
use Rattle.positions.specs.Columns.{Cols, size, wr, is_own, ends_before, by_finish, Sound, op, ops, Of}
use Rattle.positions.proofs.Places.{below, upto_ext, upto_stop, in_upto, keep_upto, no_cond, cond_both}
use Rattle.positions.proofs.Latest.{latest_le, latest_none, latest_at}
use Rattle.positions.proofs.Ops.{keep_ops, in_ops, ops_in}
use Rattle.positions.proofs.OfHistory.{size_is, start_is, finish_is, own_is}
use Rattle.placing.specs.States.{State, is_free, left, Holds}
use Rattle.placing.proofs.Lates.{under_top, top_in}
use Rattle.lbt.specs.Rounds.{open_write}

-- the finish of j
abbrev pub fin : Cols → ℕ → ℕ
fin C j = get_or C.finish j 0

-- j precedes no write, where the last write that is not placed is at low - 1
abbrev pub may : Cols → ℕ → ℕ → Bool
may C low j = leb (get_or C.start (low - 1) 0) (fin C j)

module _ (C : Cols) where
  -- the writes by falling finish are writes, in falling finish
  pub falls_in : {j : ℕ} → In j (by_finish C) → (j < size C) × (wr C j ≡ j)
  unfolding by_finish
  falls_in m = let k = in_upto (is_own C.writer) (size C) (in_sort (ends_before C) _ m) in (k.0, eqb-true _ _ k.1)

  ordered : (l : List ℕ) → Pairs (λ x y. ends_before C x y ≡ true) (sort (ends_before C) l)
  ordered l =
      sort_ordered (ends_before C) (λ x y. ends_before C x y ≡ true) (λ x y e. e)
      (λ x y e. le-leb (fin C x) (fin C y) (omega (arith, leb-false (fin C y) (fin C x) e)))
      (λ x y z a b. le-leb (fin C z) (fin C x) (omega (arith, leb-true (fin C y) (fin C x) a, leb-true (fin C z) (fin C y) b))) l

  pub falls_ordered : Pairs (λ x y. ends_before C x y ≡ true) (by_finish C)
  unfolding by_finish
  falls_ordered = ordered _

  -- the candidates of a state, whose last write that is not placed is at low - 1
  module _ (p : Sound C) (s : State) (h : Holds C s) (low : ℕ) (some : 0 < low) (e : latest (open_write C.writer s.placed) (size C) ≡ low) where
    abbrev P : ℕ → Bool
    P = is_free s.placed

    abbrev W : ℕ → Bool
    W = is_own C.writer

    abbrev newest : ℕ
    newest = get_or C.start (low - 1) 0

    at_low : and P W (low - 1) ≡ true
    at_low = rw e at (latest_at (and P W) (size C) (omega arith))

    low_in : low ≤ size C
    low_in = omega (arith, latest_le (and P W) (size C))

    module _ (H : List Op) (f : Of C H) where
      abbrev L : List Op
      L = ops H (left s)

      writes_ops : writes L ≡ ops H (upto (and P W) s.top)
      writes_ops =
          keep_ops H P s.top is_write ∙ ap (ops H) (upto_ext s.top (λ j l. ap (λ (b : Bool). cond (P j) b false) (own_is f j (top_in C p s h H f j l))))

      -- a write that is not placed starts by the newest
      oldest : {o : Op} → In o (writes L) → o.start ≤ newest
      oldest {o} m =
          omega (
            arith,
            ap (λ (x : Op). x.start) i.1,
            start_is f i.0 (top_in C p s h H f i.0 i.2),
            p.shape.rising i.0 (low - 1) (go (below i.0 low)) (omega (arith, low_in)),
          )
        where
          i : (j : ℕ) × (o ≡ op H j) × (j < s.top) × (and P W j ≡ true)
          i = in_ops H _ _ (rw writes_ops at m)

          go : (i.0 < low) ⊎ (low ≤ i.0) → i.0 ≤ low - 1
          go (inl a) = omega arith
          go (inr a) = absurd (both i.3 (latest_none (and P W) (size C) i.0 (omega arith) (omega (arith, i.2, h.ready.within))))

      newest_in : In (op H (low - 1)) (writes L)
      newest_in = rw writes_ops (ops_in H _ _ (under_top C p s h (low - 1) (omega (arith, low_in)) (cond_both _ _ at_low).0) at_low)

      is_free_lem : (j : ℕ) → j < size C → free L (op H j) ≡ may C low j
      is_free_lem j l = go _ (all? (starts_by (op H j)) (writes L))
        where
          ends : (op H j).finish ≡ fin C j
          ends = finish_is f j (omega (arith, size_is f))

          go : (b : Bool) → All? (starts_by (op H j)) (writes L) b → b ≡ may C low j
          go true (each u) =
              sym
              (le-leb newest (fin C j)
              (omega (
                arith,
                ends,
                start_is f (low - 1) (omega (arith, size_is f, low_in)),
                ltb-false (op H j).finish (op H (low - 1)).start (not-true (ltb (op H j).finish (op H (low - 1)).start) (u (op H (low - 1)) newest_in)),
              )))
          go false (some_not o m n) =
              sym (lt-leb newest (fin C j) (omega (arith, ends, ltb-true (op H j).finish o.start (not-false (ltb (op H j).finish o.start) n), oldest m)))

      pub candidates_at : candidates L ≡ ops H (keep (and P (may C low)) (by_finish C))
      unfolding candidates by_finish
      candidates_at =
          ap (sort ends_later) (ap (keep (free L)) writes_ops ∙ keep_ops H (and P W) s.top (free L))
          ∙ sort_map (op H) ends_later X
          ∙ ap (ops H)
          (sort_ext (λ x y. ends_later (op H x) (op H y)) (ends_before C) X (λ x y m n. alike x y (in_upto _ s.top m).0 (in_upto _ s.top n).0)
          ∙ ap (sort (ends_before C)) same
          ∙ sym
          (sort_keep (ends_before C) (and P (may C low))
          (λ x y z a b. le-leb (fin C z) (fin C x) (omega (arith, leb-true (fin C y) (fin C x) a, leb-true (fin C z) (fin C y) b))) ordered _))
        where
          X : List ℕ
          X = upto (and (and P W) (λ j. free L (op H j))) s.top

          alike : (x y : ℕ) → x < s.top → y < s.top → ends_later (op H x) (op H y) ≡ ends_before C x y
          alike x y a b =
              ap (λ (k : ℕ). leb k (op H x).finish) (finish_is f y (top_in C p s h H f y b)) ∙ ap (λ (k : ℕ). leb (fin C y) k) (finish_is f x (top_in C p s h H f x a))

          swap : (a b c d : Bool) → c ≡ d → cond (cond a b false) c false ≡ cond b (cond a d false) false
          swap true true c d q = q
          swap true false c d q = refl
          swap false true c d q = refl
          swap false false c d q = refl

          same : X ≡ keep (and P (may C low)) (upto W (size C))
          same =
              upto_ext s.top (λ j l. swap (P j) (W j) (free L (op H j)) (may C low j) (is_free_lem j (omega (arith, h.ready.within))))
              ∙ sym (upto_stop (and W (and P (may C low))) s.top (size C) h.ready.within (λ j a b. rw (h.ready.above j a b) (no_cond (W j))))
              ∙ sym (keep_upto W (and P (may C low)) (size C))
