-- The zone method decides 1-atomicity (document 01, "Zones"): its order is valid and 1-atomic, and where it has none there is none.
-- Assumes nothing.
use Prim.Native.Nat.{ℕ, ◌≤◌, ◌<◌}
use mathlib.Core.Path.{◌≡◌, refl, sym, ap}
use mathlib.Core.Logic.{◌⊎◌, inl, inr, ◌≢◌, ⊎_elim}
use mathlib.Core.Bool.{Bool, true, false, cond, ◌||◌}
use mathlib.Core.List.Memᴰ.{eq_of_singleton as alone}
use mathlib.Core.List.Memᴰ.{head as here}
use mathlib.Core.List.{List, [], ◌∷◌, map, Memᴰ as In}
use native.Mathlib.Omega.{arith}
use native.Mathlib.Decide.{dec_lt}
use borrow.Author.Tests.{lt-ltb, eqb-false, ne_eqb, not-true}
use Rattle.lists.specs.Pairs.{Pairs}
use Rattle.lists.specs.Sorts.{sort}
use Rattle.lists.proofs.Tests.{Told, told_true, true_told, told_as, told_not, told_and, told_or, told_ltb, true_not, both}
use Rattle.lists.proofs.Members.{in_keep, keep_in}
use Rattle.lists.proofs.Every.{all_true, true_all}
use Rattle.lists.proofs.Pairs.{pairs_map, pairs_both, pairs_find}
use Rattle.lists.proofs.Sorts.{in_sort, sort_in, by_key}
use Rattle.history.specs.declared.Op.{Op}
use Rattle.methods.specs.declared.Zone.{Zone}
use Rattle.methods.specs.Place.{other_value, writes}
use Rattle.methods.specs.Zones.{none, order, low, high, forward, overlap, inside, cluster, first_finish, last_start, zone_of, low_first, clear, is_one, in_order, zones}
use Rattle.methods.specs.Fzf.{only}
use Rattle.witnesses.specs.Histories.{Write, Prepared}
use Rattle.witnesses.specs.Orders.{Orders}
use Rattle.witnesses.specs.Witness.{Witness}
use Rattle.witnesses.specs.Decides.{no_order, an_order}
use Rattle.witnesses.proofs.Parts.{in_writes, writes_in}
use Rattle.witnesses.proofs.Positions.{orders_witness}
use Rattle.witnesses.proofs.Near.{near_one}
use Rattle.witnesses.proofs.Join.{joins}
use Rattle.clusters.specs.Zones.{ZonesDecide}
use Rattle.clusters.specs.Pass.{passes, PassDecides}
use Rattle.clusters.proofs.Pass.{After, pass_sound, pass_complete}
use Rattle.clusters.proofs.Clusters.{Differ, differ_sym, in_only, only_in, not_last, home, follows, cluster_orders, writes_apart, before_or_between}

-- Two zones, the second forward, clash where each has its finish below the other's start: forward ones overlap, a backward one lies inside.
record Clash (y z : Zone) : Type 0 where
  forth : z.finish < z.start
  left : y.finish < z.start
  right : z.finish < y.start

clash? : (y z : Zone) → Told (Clash y z) (overlap y z || inside y z)
clash? y z =
    told_as
    (⊎_elim (λ h. omega (arith, h.0.0.0, h.0.0.1, h.0.1, h.1)) (λ h. omega (arith, h.0.0.0, h.0.0.1, h.0.1, h.1)))
    (λ c. elim (dec_lt y.finish y.start) [
      | yes h ↦ inl (((h, c.forth), omega (arith, c.left)), omega (arith, c.right))
      | no h ↦ inr (((h, c.forth), omega (arith, c.left, c.right)), omega (arith, c.forth, c.left))
    ])
    (told_or
    (told_and (told_and (told_and forth (told_ltb z.finish z.start)) (told_ltb (low y) (high z))) (told_ltb (low z) (high y)))
    (told_and (told_and (told_and (told_not forth) (told_ltb z.finish z.start)) (told_ltb (low z) (low y))) (told_ltb (high y) (high z))))
  where
    forth : Told (y.finish < y.start) (forward y)
    forth = told_ltb y.finish y.start

-- of two that do not clash, the one with the lower low end has no start above the other's finish
in_turn : (y z : Zone) → (Clash y z → ⊥) → (Clash z y → ⊥) → y.finish ≢ z.start → low y ≤ low z → y.start ≤ z.finish
in_turn y z m n d h = go (dec_lt z.finish y.start) (dec_lt y.finish z.start) (dec_lt z.finish z.start)
  where
    go : Dec (z.finish < y.start) → Dec (y.finish < z.start) → Dec (z.finish < z.start) → y.start ≤ z.finish
    go (no a) b c = omega arith
    go (yes a) (no b) c = omega arith
    go (yes a) (yes b) (yes c) = absurd (m (omega arith))
    go (yes a) (yes b) (no c) = absurd (n (omega arith))

-- two answers that are the same
same : (a b : Bool) → (a ≡ true → b ≡ true) → (b ≡ true → a ≡ true) → a ≡ b
same true b h k = sym (h refl)
same false true h k = k refl
same false false h k = refl

clear? : (H : List Op) (v w : Op) → Told (Clash (zone_of H v) (zone_of H w) → ⊥) (clear H v w)
unfolding clear
clear? H v w = told_not (clash? (zone_of H v) (zone_of H w))

module _ {H : List Op} (g : Prepared H) where
  -- SOUND: where no zones clash, the clusters by low end are a 1-atomic order.

  apart : is_one H ≡ true → {v w : Op} → Write H v → Write H w → Differ v w → Clash (zone_of H v) (zone_of H w) → ⊥
  unfolding is_one
  apart e {v} {w} kv kw n =
      told_true (clear? H v w)
      (all_true (clear H v) _ (all_true _ (writes H) e v (writes_in H kv)) w
      (keep_in (other_value v) (writes H) (writes_in H kw) (true_not (ne_eqb _ _ (λ q. n (sym q))))))

  one_sound : is_one H ≡ true → Orders 1 H (in_order H)
  unfolding in_order
  one_sound e =
      joins (λ w. only (w ∷ []) H) (cluster H) H ws
      (λ w m. cluster_orders g 0 (wr m))
      (pairs_map (by_key (λ w. low (zone_of H w)) differ_sym (writes_apart g))
      (λ v w m n r. follows g (v ∷ []) (w ∷ []) (λ x i. rw (alone i) (wr m)) (λ y j. rw (alone j) (wr n)) (pair v w (wr m) (wr n) r)))
      (λ w m x n. (in_only (w ∷ []) H n).0)
      (λ x m. let (w, k, q) = home g x m in (w, sort_in (low_first H) (writes H) (writes_in H k), only_in (w ∷ []) H m (here refl) q))
    where
      ws : List Op
      ws = sort (low_first H) (writes H)

      wr : {w : Op} → In w ws → Write H w
      wr m = in_writes H (in_sort (low_first H) (writes H) m)

      pair : (v w : Op) → Write H v → Write H w → (low (zone_of H v) ≤ low (zone_of H w)) × Differ v w → (x y : Op) → In x (v ∷ []) → In y (w ∷ []) →
          Differ x y × (last_start H x ≤ first_finish H y)
      pair v w kv kw (l, n) x y i j =
          rw (alone i, alone j)
          (n, in_turn (zone_of H v) (zone_of H w) (apart e kv kw n) (apart e kw kv (differ_sym v w n)) (not_last g kv kw) l)

  -- COMPLETE: with a 1-atomic order no zones clash, as of two writes that clash each would come before the other.

  no_clash : ((v w : Op) → Write H v → Write H w → Differ w v → Clash (zone_of H v) (zone_of H w) → ⊥) → is_one H ≡ true
  unfolding is_one
  no_clash h =
      true_all _ (writes H)
      (λ v m. true_all (clear H v) _ (λ w n. let i = in_keep (other_value v) (writes H) n in
      true_told (clear? H v w) (h v w (in_writes H m) (in_writes H i.0) (eqb-false _ _ (not-true _ i.1)))))

  one_complete : {pos : Op → ℕ} → Witness pos 1 H → is_one H ≡ true
  one_complete {pos} k = no_clash clashes
    where
      first : {x c : Op} → Write H x → Write H c → x ≢ c → first_finish H x < last_start H c → pos x < pos c
      first {x} {c} kx kc n h = ⊎_elim (λ l. l) (λ b. absurd (near_one k c b.0 b.1 x kx b.2 b.3)) (before_or_between g k kx kc n h)

      clashes : (v w : Op) → Write H v → Write H w → Differ w v → Clash (zone_of H v) (zone_of H w) → ⊥
      clashes v w kv kw n c =
          omega (arith, first kv kw (λ e. n (ap (λ o. o.value) (sym e))) c.left, first kw kv (λ e. n (ap (λ o. o.value) e)) c.right)

  -- IN ONE PASS over the zones by low end, which looks at the last forward one before each

  pub pass_decides : PassDecides H
  pass_decides = same (passes 0 (map z ws)) (is_one H) forth back
    where
      ws : List Op
      ws = sort (low_first H) (writes H)

      z : Op → Zone
      z = zone_of H

      wr : {w : Op} → In w ws → Write H w
      wr m = in_writes H (in_sort (low_first H) (writes H) m)

      rises : Pairs (λ v w. (low (z v) ≤ low (z w)) × Differ v w) ws
      rises = by_key (λ w. low (z w)) differ_sym (writes_apart g)

      Neither : Op → Op → Type 0
      Neither v w = (Clash (z v) (z w) → ⊥) × (Clash (z w) (z v) → ⊥)

      forth : passes 0 (map z ws) ≡ true → is_one H ≡ true
      forth e = no_clash (λ v w kv kw n. pick v w (pairs_find (pairs_map (pairs_both rises (pass_sound z 0 ws e).1) neither) (member kv) (member kw) (λ q. n (ap (λ o. o.value) (sym q)))))
        where
          neither : (v w : Op) → In v ws → In w ws → ((low (z v) ≤ low (z w)) × Differ v w) × After z v w → Neither v w
          neither v w m n (r, k) = (
            λ c. absurd (omega (arith, c.forth, c.right, r.0, k (lt-ltb (z v).finish (z v).start (omega (arith, c.forth, c.right, r.0))))),
            λ c. absurd (omega (arith, c.left, k (lt-ltb (z v).finish (z v).start c.forth))),
          )

          member : {w : Op} → Write H w → In w ws
          member k = sort_in (low_first H) (writes H) (writes_in H k)

          pick : (v w : Op) → Neither v w ⊎ Neither w v → Clash (z v) (z w) → ⊥
          pick v w (inl k) = k.0
          pick v w (inr k) = k.1

      back : is_one H ≡ true → passes 0 (map z ws) ≡ true
      back e = pass_complete z 0 (λ x m. omega arith) (pairs_map rises (λ v w m n r d. in_turn (z v) (z w) (apart e (wr m) (wr n) r.1) (apart e (wr n) (wr m) (differ_sym v w r.1)) (not_last g (wr m) (wr n)) r.0))

  -- THE ZONE METHOD'S THEOREM
  pub zones_decides : ZonesDecide H (zones H)
  unfolding zones
  zones_decides = go (is_one H) refl
    where
      go : (b : Bool) → is_one H ≡ b → ZonesDecide H (cond b (order (in_order H)) none)
      go true e = an_order (one_sound e)
      go false e = no_order (λ o h. both (one_complete (orders_witness g.proper h)) e)
