-- A cluster's smallest finish is below another's largest start by rank exactly where it is by the recorded stamps: at an equal stamp starts come
-- before finishes (document 02, W-203). The opening's is below every other start by rank, whatever the stamps are (02, W-207).
-- Assumes nothing.
use Prim.Native.Nat.{ℕ, ◌*◌, ◌<◌}
use mathlib.Core.Path.{◌≡◌, refl, ap, sym, ◌∙◌}
use mathlib.Core.Bool.{Bool, true, false, ◌||◌}
use mathlib.Core.Logic.{◌⊎◌, inl, inr}
use mathlib.Core.List.{List, Memᴰ as In}
use native.Mathlib.Omega.{arith}
use lib.Dec.{ltb, eqb}
use borrow.Author.Tests.{eqb-true, eq-eqb, ltb-true, ltb-false, lt-ltb}
use Rattle.lists.specs.Lists.{keep}
use Rattle.lists.proofs.Tests.{test, both}
use Rattle.lists.proofs.Members.{in_keep, keep_in}
use Rattle.lists.proofs.Maps.{in_map, map_in}
use Rattle.history.specs.declared.Op.{Op}
use Rattle.history.specs.Table.{largest_stamp, is_opening, is_write, Precedes}
use Rattle.history.specs.Screen.{Screened}
use Rattle.methods.specs.Extremes.{least, greatest}
use Rattle.methods.specs.Ranks.{by_rank, ranked}
use Rattle.methods.specs.Prepared.{same_value, by_start, new_finish, short, prepared}
use Rattle.methods.specs.Zones.{first_finish, last_start}
use Rattle.witnesses.specs.Histories.{Write, Reads, Prepared}
use Rattle.witnesses.proofs.Extremes.{least_low, least_is, greatest_in, greatest_is}
use Rattle.preparation.specs.Claims.{RowsRise}
use Rattle.preparation.proofs.Ranks.{latest_small, keeps_precedence}
use Rattle.preparation.proofs.Timed.{screened_proper, from_sorted, into_sorted, timed}
use Rattle.preparation.proofs.Finish.{New, whole, cut, new, new_le}
use Rattle.preparation.proofs.Shorten.{prepared_history}
use Rattle.clusters.proofs.Clusters.{last_is, first_finish_lem, starts_by_lem, ends_from}
use Rattle.zone_list.specs.ZoneList.{stamps_of}

-- an opening is counted as a write
pub opening_writes : (x : Op) → is_opening x ≡ true → is_write x ≡ true
unfolding is_write
opening_writes x e = go (eqb x.kind 1)
  where
    go : (b : Bool) → (b || is_opening x) ≡ true
    go true = refl
    go false = e

module _ {size : ℕ} {h : List Op} (s : Screened size h) (a : RowsRise h) where
  -- the operations with ranks for stamps, and the prepared ones
  abbrev R : List Op
  R = by_start (ranked h)

  abbrev H : List Op
  H = prepared h

  abbrev pub anew : Op → Op
  anew o = short R (by_rank h o)

  in_ranked : {r : Op} → In r R → (o : Op) × In o h × (r ≡ by_rank h o)
  unfolding ranked
  in_ranked {r} m = in_map (by_rank h) h (from_sorted r m)

  pub ranked_in : {o : Op} → In o h → In (by_rank h o) R
  unfolding ranked
  ranked_in {o} m = into_sorted (by_rank h o) (map_in (by_rank h) m)

  -- a prepared operation is a recorded one with new stamps, and the other way round
  pub in_prepared : {x : Op} → In x H → (o : Op) × In o h × (x ≡ anew o)
  unfolding prepared
  in_prepared m = let (r, k, e) = in_map (short R) R m in let (o, n, d) = in_ranked k in (o, n, e ∙ ap (λ (z : Op). short R z) d)

  pub prepared_in : {o : Op} → In o h → In (anew o) H
  unfolding prepared
  prepared_in m = map_in (short R) (ranked_in m)

  -- the cluster's recorded operations
  abbrev rows_of : Op → List Op
  rows_of w = keep (same_value w) h

  of_cluster : (w : Op) {x : Op} → In x (rows_of w) → In x h × (x.value ≡ w.value)
  of_cluster w {x} m = let k = in_keep (same_value w) h m in (k.0, eqb-true x.value w.value k.1)

  in_cluster : (w : Op) {x : Op} → In x h → x.value ≡ w.value → In x (rows_of w)
  in_cluster w {x} m e = keep_in (same_value w) h m (eq-eqb x.value w.value e)

  -- a write of the register with the value of a prepared one that is no opening is none either
  plain : {v x : Op} → Write H v → is_opening v ≡ false → In x h → x.value ≡ v.value → is_opening x ≡ false
  unfolding is_write is_opening
  plain {v} {x} k n m e = go (test (is_opening x))
    where
      go : (is_opening x ≡ true) ⊎ (is_opening x ≡ false) → is_opening x ≡ false
      go (inr f) = f
      go (inl f) =
          let (o, i, d) = in_prepared k.mem in
          let u = ap (λ (z : Op). z.value) d in
          let q : x ≡ o =
          (screened_proper s a).one x o (record { mem = m; write = opening_writes x f }) (record { mem = i; write = ap (λ (z : Op). is_write z) (sym d) ∙ k.write })
          (e ∙ u) in
          ap (λ (z : Op). is_opening z) q ∙ ap (λ (z : Op). is_opening z) (sym d) ∙ n

  module _ {v w : Op} (kv : Write H v) (kw : Write H w) (not-opening : is_opening v ≡ false) where
    -- precedence of an operation of v's cluster is by the stamps alone
    stamps_alone : (x y : Op) → In x h → x.value ≡ v.value → Precedes x y → x.finish < y.start
    stamps_alone x y i p (inl l) = l
    stamps_alone x y i p (inr (b, c)) = absurd (both b (plain kv not-opening i p))

    -- by the stamps, and so by rank
    pub stamps_rank : (stamps_of h v).finish < (stamps_of h w).start → first_finish H v < last_start H w
    unfolding stamps_of
    stamps_rank l = go (least_is (λ o. o.finish) largest_stamp (rows_of v)) (greatest_is (λ o. o.start) 0 (rows_of w)) l
      where
        go : {f b : ℕ} → (f ≡ largest_stamp) ⊎ ((x : Op) × In x (rows_of v) × (f ≡ x.finish)) → (b ≡ 0) ⊎ ((y : Op) × In y (rows_of w) × (b ≡ y.start)) → f < b
            → first_finish H v < last_start H w
        go (inl e) (inl d) l = absurd (omega arith)
        go (inr k) (inl d) l = absurd (omega arith)
        go (inl e) (inr (y, n, d)) l = let k = s.spans y (of_cluster w n).0 in absurd (omega (arith, k.0, k.1, latest_small y))
        go (inr (x, m, e)) (inr (y, n, d)) l =
            let (i, p) = of_cluster v m in
            let (j, q) = of_cluster w n in
            let g : Prepared H = prepared_history s a in
            omega (
              arith,
              ends_from g {w = v} {x = anew x} kv (prepared_in i) p,
              starts_by_lem g {w = w} {x = anew y} kw (prepared_in j) q,
              new_le R (by_rank h x) (ranked_in i),
              (keeps_precedence h s.spans x y i j).1 (inl (omega arith)),
            )

    -- by rank, and so by the stamps
    pub rank_stamps : first_finish H v < last_start H w → (stamps_of h v).finish < (stamps_of h w).start
    unfolding stamps_of
    rank_stamps l =
        let g : Prepared H = prepared_history s a in
        let (o, n, b, q) = last_is kw in
        let (y, j, e) = in_prepared n in
        let (x, i, d) = in_prepared kv.mem in
        let p : x.value ≡ v.value = sym (ap (λ (z : Op). z.value) d) in
        let c : y.value ≡ w.value = sym (ap (λ (z : Op). z.value) e) ∙ value o b in
        let t : new_finish R (by_rank h x) < 2 * (by_rank h y).start = omega (arith, first_finish_lem g kv, ap (λ (z : Op). z.finish) d, q, ap (λ (z : Op). z.start) e) in
        go x y i j p c t (new R (by_rank h x) (ranked_in i))
      where
        value : (o : Op) → (o ≡ w) ⊎ Reads H w o → o.value ≡ w.value
        value o (inl e) = ap (λ (z : Op). z.value) e
        value o (inr d) = sym d.same

        by : (x y : Op) → In x h → In y h → x.value ≡ v.value → y.value ≡ w.value → (by_rank h x).finish < (by_rank h y).start
            → least (λ o. o.finish) largest_stamp (rows_of v) < greatest (λ o. o.start) 0 (rows_of w)
        by x y i j p c t =
            omega (
              arith,
              least_low (λ o. o.finish) largest_stamp (rows_of v) {x = x} (in_cluster v i p),
              greatest_in (λ o. o.start) 0 (rows_of w) {x = y} (in_cluster w j c),
              stamps_alone x y i p ((keeps_precedence h s.spans x y i j).0 t),
            )

        go : (x y : Op) → In x h → In y h → x.value ≡ v.value → y.value ≡ w.value → new_finish R (by_rank h x) < 2 * (by_rank h y).start → New R (by_rank h x)
            → least (λ o. o.finish) largest_stamp (rows_of v) < greatest (λ o. o.start) 0 (rows_of w)
        go x y i j p c t (whole e) = by x y i j p c (omega arith)
        go x y i j p c t (cut r d l e) =
            let (u, k, q) = in_ranked d.mem in
            by u y k j (sym (ap (λ (z : Op). z.value) q) ∙ sym d.same ∙ p) c
            (omega (arith, (timed s a).cross r (by_rank h y) d.mem (ranked_in j), ap (λ (z : Op). z.finish) q))

    -- THE COMPARISON is the same
    pub compares : ltb (first_finish H v) (last_start H w) ≡ ltb (stamps_of h v).finish (stamps_of h w).start
    compares = go (test (ltb (first_finish H v) (last_start H w)))
      where
        go : (ltb (first_finish H v) (last_start H w) ≡ true) ⊎ (ltb (first_finish H v) (last_start H w) ≡ false)
            → ltb (first_finish H v) (last_start H w) ≡ ltb (stamps_of h v).finish (stamps_of h w).start
        go (inl e) = e ∙ sym (lt-ltb _ _ (rank_stamps (ltb-true (first_finish H v) (last_start H w) e)))
        go (inr e) = e ∙ sym (not_below (test (ltb (stamps_of h v).finish (stamps_of h w).start)))
          where
            not_below : (ltb (stamps_of h v).finish (stamps_of h w).start ≡ true) ⊎ (ltb (stamps_of h v).finish (stamps_of h w).start ≡ false)
                → ltb (stamps_of h v).finish (stamps_of h w).start ≡ false
            not_below (inl k) = absurd (omega (arith, ltb-false (first_finish H v) (last_start H w) e, stamps_rank (ltb-true _ _ k)))
            not_below (inr k) = k
