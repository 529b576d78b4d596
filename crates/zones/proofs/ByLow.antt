-- The writes by low end: which they are, that each stands there once, and that they are the history's.
-- Assumes nothing.
use Prim.Native.Nat.{ℕ, ◌≤◌, ◌<◌}
use mathlib.Core.Path.{◌≡◌, ap, sym, ◌∙◌}
use mathlib.Core.Bool.{true}
use mathlib.Core.Logic.{◌≢◌}
use mathlib.Core.List.{List, Memᴰ as In}
use native.Mathlib.Omega.{arith}
use lib.ListN.{length, get_or}
use lib.Dec.{leb}
use borrow.Author.Tests.{eqb-true}
use Rattle.lists.specs.Lists.{keep}
use Rattle.lists.specs.Sorts.{sort}
use Rattle.lists.specs.Pairs.{Pairs}
use Rattle.lists.proofs.Pairs.{pairs_map}
use Rattle.lists.proofs.Sorts.{in_sort, sort_in, sort_length, by_key}
use Rattle.lists.proofs.Images.{sort_map, sort_ext, get_d_in}
use Rattle.sorting.specs.Keys.{rises}
use Rattle.history.specs.declared.Op.{Op}
use Rattle.history.specs.Table.{is_write}
use Rattle.methods.specs.declared.Zone.{Zone}
use Rattle.methods.specs.Place.{writes}
use Rattle.methods.specs.Zones.{low, zone_of, low_first}
use Rattle.positions.specs.Places.{upto, Unlike}
use Rattle.positions.specs.Columns.{Cols, size, wr, is_own, op, ops, Of}
use Rattle.positions.proofs.Once.{places_apart}
use Rattle.positions.proofs.Places.{upto_ext, upto_length, in_upto}
use Rattle.positions.proofs.Ops.{keep_ops}
use Rattle.positions.proofs.OfHistory.{size_is, own_is}
use Rattle.zones.specs.Zones.{zone_by, Zoned, Lows, lower_first, writes_at, by_low, Inside}
use Rattle.zones.proofs.Zone.{all_ops}

module _ (finish late writer : List ℕ) where
  -- a listed one is a write
  pub by_low_write : {w : ℕ} → In w (by_low finish late writer) → (w < length writer) × (get_or writer w 0 ≡ w)
  unfolding by_low
  by_low_write m = let k = in_upto (is_own writer) (length writer) (in_sort (lower_first finish late) (writes_at writer) m) in (k.0, eqb-true _ _ k.1)

  pub by_low_in : {w : ℕ} → In w (by_low finish late writer) → In w (writes_at writer)
  unfolding by_low
  by_low_in m = in_sort (lower_first finish late) (writes_at writer) m

  pub in_by_low : {w : ℕ} → In w (writes_at writer) → In w (by_low finish late writer)
  unfolding by_low
  in_by_low m = sort_in (lower_first finish late) (writes_at writer) m

  -- each once, by rising low end
  pub by_low_rises : Pairs (λ x y. (low (zone_by finish late x) ≤ low (zone_by finish late y)) × (x ≢ y)) (by_low finish late writer)
  unfolding by_low
  by_low_rises = by_key (λ w. low (zone_by finish late w)) (λ x y d e. d (sym e)) (places_apart (is_own writer) (length writer))

  pub by_low_apart : Pairs Unlike (by_low finish late writer)
  by_low_apart = pairs_map by_low_rises (λ x y m n r. r.1)

  pub by_low_inside : length finish ≡ length writer → Inside finish (by_low finish late writer)
  by_low_inside e i l = rw e (by_low_write (get_d_in (by_low finish late writer) 0 i l)).0

  -- sorted by a column of low ends
  pub sorted_by_low : (column : List ℕ) → Lows finish late writer (length writer) column → sort (rises column) (writes_at writer) ≡ by_low finish late writer
  unfolding by_low
  sorted_by_low column g = sort_ext (rises column) (lower_first finish late) (writes_at writer) same
    where
      end : {w : ℕ} → In w (writes_at writer) → get_or column w 0 ≡ low (zone_by finish late w)
      end {w} m = let k = in_upto (is_own writer) (length writer) m in g.lows w k.0 (eqb-true _ _ k.1)

      same : (x y : ℕ) → In x (writes_at writer) → In y (writes_at writer) → rises column x y ≡ lower_first finish late x y
      same x y m n = rw (end m, end n)

  pub by_low_length : length (by_low finish late writer) ≤ length writer
  unfolding by_low
  by_low_length = rw (sort_length (lower_first finish late)) (upto_length (is_own writer) (length writer))

module _ {C : Cols} {H : List Op} (o : Of C H) where
  pub writes_at_lem : writes H ≡ ops H (writes_at C.writer)
  writes_at_lem =
      ap (keep is_write) (sym (all_ops H))
      ∙ keep_ops H (λ j. true) (length H) is_write
      ∙ ap (ops H) (upto_ext (length H) (λ j k. own_is o j k) ∙ ap (upto (is_own C.writer)) (sym o.long))

  -- a listed position is a write of the columns
  pub write_of : {w : ℕ} → In w (writes_at C.writer) → (w < size C) × (wr C w ≡ w)
  write_of m = let k = in_upto (is_own C.writer) (length C.writer) m in (omega (arith, k.0, o.long, size_is o), eqb-true _ _ k.1)

  module _ (late : List ℕ) (z : Zoned C late) where
    pub zone_at : {w : ℕ} → In w (writes_at C.writer) → zone_of H (op H w) ≡ zone_by C.finish late w
    zone_at {w} m = let k = write_of m in z.zones H o w k.0 k.1

    pub by_low_lem : ops H (by_low C.finish late C.writer) ≡ sort (low_first H) (writes H)
    unfolding by_low
    by_low_lem =
        ap (ops H) (sort_ext (lower_first C.finish late) (λ x y. low_first H (op H x) (op H y)) (writes_at C.writer) same)
        ∙ sym (sort_map (op H) (low_first H) (writes_at C.writer))
        ∙ ap (sort (low_first H)) (sym writes_at_lem)
      where
        same : (x y : ℕ) → In x (writes_at C.writer) → In y (writes_at C.writer) → lower_first C.finish late x y ≡ low_first H (op H x) (op H y)
        same x y m n =
            ap (λ (a : Zone). leb (low a) (low (zone_by C.finish late y))) (sym (zone_at m))
            ∙ ap (λ (b : Zone). leb (low (zone_of H (op H x))) (low b)) (sym (zone_at n))
