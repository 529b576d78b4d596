-- What the screening and ranks for stamps leave, in the words of histories: a history whose stamps differ and in which no read precedes its write.
-- Assumes nothing.
use Prim.Native.Nat.{ℕ, ◌≤◌, ◌<◌}
use mathlib.Core.Path.{◌≡◌, refl, sym, ap, ◌∙◌}
use mathlib.Core.Logic.{◌⊎◌, inl, inr, ◌≢◌}
use mathlib.Core.Bool.{Bool, true, false}
use mathlib.Core.List.{List, map, Memᴰ as In}
use native.Mathlib.Omega.{arith}
use Rattle.lists.specs.Pairs.{Pairs}
use Rattle.lists.proofs.Tests.{both, Told, holds, fails}
use Rattle.lists.proofs.Maps.{in_map}
use Rattle.lists.proofs.Pairs.{pairs_map, pairs_both, pairs_image}
use Rattle.lists.proofs.Sorts.{in_sort, sort_in, by_key}
use Rattle.history.specs.declared.Op.{Op}
use Rattle.history.specs.Table.{is_opening, is_write, precedes, Precedes}
use Rattle.history.specs.Screen.{Screened}
use Rattle.history.proofs.Operations.{told_precedes}
use Rattle.methods.specs.Ranks.{starting, finishing, rank, by_rank, ranked}
use Rattle.methods.specs.Prepared.{starts_first, by_start}
use Rattle.witnesses.specs.Histories.{Write, Reads, Apart, Proper}
use Rattle.witnesses.specs.Orders.{Orders}
use Rattle.witnesses.proofs.Places.{bef_in, bef_in₂, bef_pair}
use Rattle.witnesses.proofs.Parts.{write_sub, reads_sub}
use Rattle.preparation.specs.Claims.{RowsRise}
use Rattle.preparation.proofs.Lists.{Met, alike, ahead, behind, met}
use Rattle.preparation.proofs.Ranks.{start_in, finish_in, ranks_differ, precedes_ranked, meets_ranked, own_ranked}
use Rattle.preparation.proofs.Stamped.{anew_opening, reads_of, proper_on, orders_on, orders_back}

-- A history by rising start, as the screening and the ranks leave it: a prepared one but for the writes that finish after a read of theirs.
pub record Timed (H : List Op) : Type 0 where
  pub proper : Proper H
  pub rising : Pairs (λ x y. x.start < y.start) H
  pub clock : (x y : Op) → In x H → In y H → Precedes x y → x.finish < y.start
  pub cross : (x y : Op) → In x H → In y H → x.finish ≢ y.start
  pub ends : (x y : Op) → In x H → In y H → x.finish ≡ y.finish → x ≡ y
  pub timely : (w r : Op) → Reads H w r → w.start ≤ r.finish

-- x stands in an earlier row than y
abbrev Earlier : Op → Op → Type 0
Earlier x y = x.row < y.row

-- the kinds are two: a read is no write, and what is no write is a read
pub kind_read : (r : Op) → r.kind ≡ 2 → is_write r ≡ false
unfolding is_write is_opening
kind_read r e = rw e

module _ {size : ℕ} {h : List Op} (s : Screened size h) where
  pub read_kind : {r : Op} → In r h → is_write r ≡ false → r.kind ≡ 2
  read_kind {r} m e = go (s.kinds r m)
    where
      go : (is_write r ≡ true) ⊎ (r.kind ≡ 2) → r.kind ≡ 2
      go (inl k) = absurd (both k e)
      go (inr k) = k

  -- what the tests say of an earlier and a later row, for any two operations
  one : (x y : Op) → Write h x → Write h y → Met Earlier x y → x.value ≡ y.value → x ≡ y
  one x y u v (alike d) e = d
  one x y u v (ahead l) e = absurd (s.values x y u.mem v.mem l u.write v.write e)
  one x y u v (behind l) e = absurd (s.values y x v.mem u.mem l v.write u.write (sym e))

  dict : (r : Op) → In r h → is_write r ≡ false → (w : Op) × Reads h w r
  dict r m e =
      let d = s.written r m (read_kind m e) in
      (d.0, record { by = record { mem = d.1; write = d.2.writes }; mem = m; read = e; same = d.2.same })

  timely : (w r : Op) → Reads h w r → Precedes r w → ⊥
  timely w r d = s.timely w r d.by.mem d.mem (record { writes = d.by.write; reads = read_kind d.mem d.read; same = d.same })

  module _ (a : RowsRise h) where
    pub screened_proper : Proper h
    screened_proper =
        record {
          rows = pairs_map a (λ x y m n l e. omega arith);
          span = λ x m. (s.spans x m).0;
          one = λ x y u v. one x y u v (met Earlier a u.mem v.mem);
          dict = dict;
        }

-- WITH RANKS FOR STAMPS no two stamps are equal, and all else is as the screening leaves it.
module _ {size : ℕ} {h : List Op} (s : Screened size h) (a : RowsRise h) where
  starts : (x y : Op) → In x h → In y h → Met Earlier x y → (by_rank h x).start ≡ (by_rank h y).start → x ≡ y
  starts x y m n (alike d) e = d
  starts x y m n (ahead l) e = absurd (ranks_differ h (start_in h m) (start_in h n) refl l e)
  starts x y m n (behind l) e = absurd (ranks_differ h (start_in h n) (start_in h m) refl l (sym e))

  ends : (x y : Op) → In x h → In y h → Met Earlier x y → (by_rank h x).finish ≡ (by_rank h y).finish → x ≡ y
  ends x y m n (alike d) e = d
  ends x y m n (ahead l) e = absurd (ranks_differ h (finish_in h m) (finish_in h n) refl l e)
  ends x y m n (behind l) e = absurd (ranks_differ h (finish_in h n) (finish_in h m) refl l (sym e))

  -- precedence is by ranks alone
  clock : (x y : Op) → In x h → In y h → Precedes (by_rank h x) (by_rank h y) → (by_rank h x).finish < (by_rank h y).start
  clock x y m n (inl l) = l
  clock x y m n (inr (p, q)) =
      precedes_ranked h s.spans m n (inr (sym (anew_opening (λ o. rank h (starting o)) (λ o. rank h (finishing o)) x) ∙ p, sym (anew_opening (λ o. rank h (starting o)) (λ o. rank h (finishing o)) y) ∙ q))

  cross : (x y : Op) → In x h → In y h → (by_rank h x).finish ≢ (by_rank h y).start
  cross x y m n e = go (precedes x y) (told_precedes x y)
    where
      go : (b : Bool) → Told (Precedes x y) b → ⊥
      go true (holds l) = omega (arith, precedes_ranked h s.spans m n l)
      go false (fails l) = omega (arith, meets_ranked h s.spans n m l)

  ranked_proper : Proper (ranked h)
  unfolding ranked
  ranked_proper =
      proper_on (λ o. rank h (starting o)) (λ o. rank h (finishing o)) h (screened_proper s a) (λ x m. omega (arith, own_ranked h s.spans m))

  -- A HISTORY WITH RANKS has the orders of the history with stamps
  pub orders_ranked : {k : ℕ} {o : List Op} → Orders k h o → Orders k (ranked h) (map (by_rank h) o)
  unfolding ranked
  orders_ranked g =
      orders_on (λ o. rank h (starting o)) (λ o. rank h (finishing o)) h g
      (λ x y m p.
      let i = g.from x (bef_in m) in
      let j = g.from y (bef_in₂ m) in
      omega (arith, clock y x j i p, meets_ranked h s.spans i j (bef_pair g.pairs m).valid))

  pub ranked_orders : {k : ℕ} {p : List Op} → Orders k (ranked h) p → (o : List Op) × (p ≡ map (by_rank h) o) × Orders k h o
  unfolding ranked
  ranked_orders g =
      orders_back (λ o. rank h (starting o)) (λ o. rank h (finishing o)) h (screened_proper s a)
      (λ x y m n p. inl (precedes_ranked h s.spans n m p)) g

-- By rising start: the same members, and the starts, which all differ, rise.
module _ {h : List Op} where
  pub from_sorted : (x : Op) → In x (by_start h) → In x h
  unfolding by_start
  from_sorted x m = in_sort starts_first h m

  pub into_sorted : (x : Op) → In x h → In x (by_start h)
  unfolding by_start
  into_sorted x m = sort_in starts_first h m

  module _ (differ : Pairs (λ x y. x.start ≢ y.start) h) (g : Proper h) where
    abbrev Differ : Op → Op → Type 0
    Differ x y = Apart x y × (x.start ≢ y.start)

    sorted : Pairs (λ x y. (x.start ≤ y.start) × Differ x y) (by_start h)
    unfolding by_start
    sorted = by_key (λ x. x.start) (λ x y d. (λ e. d.0 (sym e), λ e. d.1 (sym e))) (pairs_both g.rows differ)

    sorted_rising : Pairs (λ x y. x.start < y.start) (by_start h)
    sorted_rising = pairs_map sorted (λ x y m n d. omega (arith, d.0, d.1.1))

    sorted_proper : Proper (by_start h)
    sorted_proper =
        record {
          rows = pairs_map sorted (λ x y m n d. d.1.0);
          span = λ x m. g.span x (from_sorted x m);
          one = λ x y u v. g.one x y (write_sub from_sorted u) (write_sub from_sorted v);
          dict = λ r m e. let d = g.dict r (from_sorted r m) e in (d.0, reads_sub into_sorted d.1);
        }

-- THE RANKED HISTORY BY RISING START
module _ {size : ℕ} {h : List Op} (s : Screened size h) (a : RowsRise h) where
  of : {y : Op} → In y (by_start (ranked h)) → (x : Op) × In x h × (y ≡ by_rank h x)
  unfolding ranked
  of {y} m = in_map (by_rank h) h (from_sorted y m)

  starts_differ : Pairs (λ x y. x.start ≢ y.start) (ranked h)
  unfolding ranked
  starts_differ =
      pairs_image (by_rank h)
      (pairs_map a (λ x y m n l e. omega (arith, ap (λ o. o.row) (starts s a x y m n (met Earlier a m n) e))))

  early : (w r : Op) → Reads (ranked h) w r → w.start ≤ r.finish
  unfolding ranked
  early w r d =
      let (v, x, k, p, q) = reads_of (λ o. rank h (starting o)) (λ o. rank h (finishing o)) h d in
      omega (arith, ap (λ o. o.start) p, ap (λ o. o.finish) q, meets_ranked h s.spans k.by.mem k.mem (timely s v x k))

  pub timed : Timed (by_start (ranked h))
  timed =
      record {
        proper = sorted_proper starts_differ (ranked_proper s a);
        rising = sorted_rising starts_differ (ranked_proper s a);
        clock = λ x y m n p. let (u, i, e) = of m in let (v, j, d) = of n in rw (e, d) (clock s a u v i j (rw (e, d) at p));
        cross = λ x y m n e. let (u, i, p) = of m in let (v, j, q) = of n in cross s a u v i j (cc (ap (λ o. o.finish) p, ap (λ o. o.start) q));
        ends = λ x y m n e.
            let (u, i, p) = of m in
            let (v, j, q) = of n in
            let z : u ≡ v = ends s a u v i j (met Earlier a i j) (cc (ap (λ o. o.finish) p, ap (λ o. o.finish) q)) in
            cc;
        timely = λ w r d. early w r (reads_sub from_sorted d);
      }
