-- The ranked history by rising start is the history by rising time, ranked: equal starts go by row in both, and the opening comes first in both.
-- Assumes nothing.
use Prim.Native.Nat.{◌≤◌, ◌<◌}
use mathlib.Core.Path.{◌≡◌, refl, sym, ap, ◌∙◌}
use mathlib.Core.Logic.{◌⊎◌, inl, inr}
use mathlib.Core.Bool.{true, false}
use mathlib.Core.List.{List, map, Memᴰ as In}
use native.Mathlib.Omega.{arith}
use native.Mathlib.Decide.{dec_lt}
use borrow.Author.Tests.{le-leb, lt-leb}
use Rattle.lists.proofs.Tests.{test}
use Rattle.lists.proofs.Pairs.{pairs_map}
use Rattle.lists.proofs.Images.{sort_map, sort_as}
use Rattle.history.specs.declared.Op.{Op}
use Rattle.history.specs.Table.{is_opening}
use Rattle.history.specs.Screen.{Spanned}
use Rattle.methods.specs.Ranks.{Event, starting, finishing, by_rank, ranked}
use Rattle.methods.specs.Prepared.{starts_first, by_start}
use Rattle.preparation.specs.Claims.{RowsRise}
use Rattle.preparation.specs.Times.{time_of, begins_first, by_time}
use Rattle.preparation.proofs.Ranks.{Sooner, rank_rises, start_in, level_opening, level_other, at_zero_lem}

-- A stamp of a screened register: the opening's, which is 0, or another's.
abbrev pub Placed : Event → Type 0
Placed e = ((e.level ≡ 0) × (e.stamp ≡ 0)) ⊎ (e.level ≡ 1)

module _ (o : Op) (s : Spanned o) where
  pub placed_start : Placed (starting o)
  placed_start = go (test (is_opening o))
    where
      go : (is_opening o ≡ true) ⊎ (is_opening o ≡ false) → Placed (starting o)
      go (inl e) = inl (level_opening o e, omega (arith, s.0, at_zero_lem o e s.1))
      go (inr e) = inr (level_other o e)

  pub placed_finish : Placed (finishing o)
  placed_finish = go (test (is_opening o))
    where
      go : (is_opening o ≡ true) ⊎ (is_opening o ≡ false) → Placed (finishing o)
      go (inl e) = inl (level_opening o e, at_zero_lem o e s.1)
      go (inr e) = inr (level_other o e)

-- Their times are in their sequence.
module _ (d e : Event) where
  pub lower_sooner : Placed d → Placed e → time_of d < time_of e → Sooner d e
  lower_sooner (inl (a, b)) (inl (p, q)) l = absurd (omega arith)
  lower_sooner (inl (a, b)) (inr p) l = inl (omega arith)
  lower_sooner (inr a) (inl (p, q)) l = absurd (omega arith)
  lower_sooner (inr a) (inr p) l = inr (omega arith, inl (omega arith))

  pub equal_time : Placed d → Placed e → time_of d ≡ time_of e → (d.level ≡ e.level) × (d.stamp ≡ e.stamp)
  equal_time (inl (a, b)) (inl (p, q)) l = (omega arith, omega arith)
  equal_time (inl (a, b)) (inr p) l = absurd (omega arith)
  equal_time (inr a) (inl (p, q)) l = absurd (omega arith)
  equal_time (inr a) (inr p) l = (omega arith, omega arith)

  pub sooner_time : Placed d → Placed e → Sooner d e → (time_of d < time_of e) ⊎ ((time_of d ≡ time_of e) × (d.side ≤ e.side))
  sooner_time (inl (a, b)) (inl (p, q)) (inl l) = absurd (omega arith)
  sooner_time (inl (a, b)) (inr p) (inl l) = inl (omega arith)
  sooner_time (inr a) (inl (p, q)) (inl l) = absurd (omega arith)
  sooner_time (inr a) (inr p) (inl l) = absurd (omega arith)
  sooner_time u v (inr (c, inl l)) = inl (omega arith)
  sooner_time u v (inr (c, inr (k, inl l))) = inr (omega arith, omega arith)
  sooner_time u v (inr (c, inr (k, inr (f, l)))) = inr (omega arith, omega arith)

module _ (h : List Op) (a : RowsRise h) (spans : (o : Op) → In o h → Spanned o) where
  -- of two starts the one with the lower time has the lower rank, and of two with one time the one of the lower row
  module _ (x y : Op) (m : In x h) (n : In y h) where
    below : time_of (starting x) < time_of (starting y) → (by_rank h x).start < (by_rank h y).start
    below k =
        rank_rises h {d = starting x} {e = starting y} (start_in h m)
        (lower_sooner (starting x) (starting y) (placed_start x (spans x m)) (placed_start y (spans y n)) k)

    not_above : x.row < y.row → time_of (starting x) ≤ time_of (starting y) → (by_rank h x).start ≤ (by_rank h y).start
    not_above l k = go (dec_lt (time_of (starting x)) (time_of (starting y)))
      where
        go : Dec (time_of (starting x) < time_of (starting y)) → (by_rank h x).start ≤ (by_rank h y).start
        go (yes i) = omega (arith, below i)
        go (no i) =
            let (p, q) = equal_time (starting x) (starting y) (placed_start x (spans x m)) (placed_start y (spans y n)) (omega arith) in
            omega (arith, rank_rises h {d = starting x} {e = starting y} (start_in h m) (inr (p, inr (q, inr (refl, l)))))

  alike : (x y : Op) → In x h → In y h → x.row < y.row → Dec (time_of (starting y) < time_of (starting x)) →
      starts_first (by_rank h x) (by_rank h y) ≡ begins_first x y
  alike x y m n l (yes k) = lt-leb (by_rank h x).start (by_rank h y).start (below y x n m k) ∙ sym (lt-leb (time_of (starting x)) (time_of (starting y)) k)
  alike x y m n l (no k) =
      le-leb (by_rank h x).start (by_rank h y).start (not_above x y m n l (omega arith)) ∙ sym (le-leb (time_of (starting x)) (time_of (starting y)) (omega arith))

  pub ranked_sorted : by_start (ranked h) ≡ map (by_rank h) (by_time h)
  unfolding ranked by_start by_time
  ranked_sorted =
      sort_map (by_rank h) starts_first h
      ∙ ap (map (by_rank h))
      (sort_as (λ x y. starts_first (by_rank h x) (by_rank h y)) begins_first
      (pairs_map a (λ x y m n l. alike x y m n l (dec_lt (time_of (starting y)) (time_of (starting x))))))
