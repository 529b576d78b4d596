-- A history is k-atomic exactly when it has a witness: the places in an order are one, and the operations by position are an order.
-- Assumes nothing.
use Prim.Native.Nat.{ℕ, ◌<◌}
use mathlib.Core.Path.{◌≡◌, refl, sym, ap, ◌∙◌}
use mathlib.Core.Logic.{◌⊎◌, inl, inr, ◌≢◌}
use mathlib.Core.List.Memᴰ
use mathlib.Core.List.Memᴰ.{head as here}
use mathlib.Core.List.Memᴰ.{tail as there}
use mathlib.Core.List.{List, [], ◌∷◌, ◌++◌, Memᴰ as In}
use native.Mathlib.Omega.{arith}
use lib.Dec.{leb}
use Rattle.lists.specs.Sorts.{sort}
use Rattle.lists.proofs.Tests.{both}
use Rattle.lists.proofs.Cover.{no_longer_by}
use Rattle.lists.proofs.Maps.{split_at}
use Rattle.lists.proofs.Pairs.{pairs_head, pairs_tail, pairs_keep, pairs_front, pairs_behind, pairs_across, pairs_map}
use Rattle.lists.proofs.Sorts.{in_sort, sort_in, by_key}
use Rattle.history.specs.declared.Op.{Op}
use Rattle.history.specs.Table.{is_write, Precedes}
use Rattle.methods.specs.Place.{writes, write_count}
use Rattle.witnesses.specs.Histories.{Write, Reads, Proper}
use Rattle.witnesses.specs.Orders.{Before, Orders}
use Rattle.witnesses.specs.Witness.{Climbs, Between, Witness}
use Rattle.witnesses.proofs.Parts.{named, in_writes, writes_in}
use Rattle.witnesses.proofs.Runs.{Near, AllNear, passed, runs_near, near_runs}
use Rattle.witnesses.proofs.Places.{place, Bef, bef_here, bef_pair, bef_place, bef_append, bef_behind, bef_front, Compared, equal, first, second, compared}

module _ {k : ℕ} {H o : List Op} (g : Proper H) (h : Orders k H o) where
  apart : (x y : Op) → place o x ≡ place o y → Compared x y o → x ≡ y
  apart x y e (equal q) = q
  apart x y e (first b) = absurd (omega (arith, bef_place h.pairs b))
  apart x y e (second b) = absurd (omega (arith, bef_place h.pairs b))

  never : (x : Op) → In x H → Precedes x x → ⊥
  never x m (inl l) = omega (arith, g.span x m)
  never x m (inr (a, b)) = both a b

  valid : (x y : Op) → In x H → Precedes x y → Compared x y o → place o x < place o y
  valid x y m l (equal q) = absurd (never x m (rw (← q) at l))
  valid x y m l (first b) = bef_place h.pairs b
  valid x y m l (second b) = absurd ((bef_pair h.pairs b).valid l)

  -- A read r stands behind its write w, with the writes of `middle` between: fewer than k.
  record Parted (w r : Op) : Type 0 where
    front : List Op
    middle : List Op
    end : List Op
    split : o ≡ (front ++ (w ∷ middle)) ++ (r ∷ end)
    few : write_count middle < k

  parted : (w r : Op) → Reads H w r → Parted w r
  parted w r d =
      let c = split_at (h.into r d.mem) in
      go c.0 c.1 c.2 (runs_near h.runs c.0 r c.1 c.2 d.read)
    where
      go : (a c : List Op) → o ≡ a ++ (r ∷ c) → Near k a r.value → Parted w r
      go a c e n = record { front = n.front; middle = n.back; end = c; split = cc (e, n.split, is_w); few = n.few }
        where
          in_o : In n.by o
          in_o = rw (e, n.split) (Memᴰ.append_left (r ∷ c) (Memᴰ.append_right n.front (here refl)))

          is_w : n.by ≡ w
          is_w = g.one n.by w (record { mem = h.from n.by in_o; write = n.write }) d.by (n.same ∙ sym d.same)

  -- what stands behind w and before r is in the middle
  middle_in : {w r : Op} (p : Parted w r) (z : Op) → In z o → place o w < place o z → place o z < place o r → In z p.middle
  middle_in {w} {r} p z m i j = go (Memᴰ.append_cases (p.front ++ (w ∷ p.middle)) (rw p.split at m))
    where
      bef : {x y : Op} → Bef x y ((p.front ++ (w ∷ p.middle)) ++ (r ∷ p.end)) → place o x < place o y
      bef b = bef_place h.pairs (rw p.split b)

      inner : In z p.front ⊎ In z (w ∷ p.middle) → In z p.middle
      inner (inl n) = absurd (omega (arith, bef (bef_front (r ∷ p.end) (bef_append n (here refl)))))
      inner (inr (here e)) = absurd (omega (arith, ap (place o) e))
      inner (inr (there n)) = n

      go : In z (p.front ++ (w ∷ p.middle)) ⊎ In z (r ∷ p.end) → In z p.middle
      go (inl n) = inner (Memᴰ.append_cases p.front n)
      go (inr (here e)) = absurd (omega (arith, ap (place o) e))
      go (inr (there n)) = absurd (omega (arith, bef (bef_behind (p.front ++ (w ∷ p.middle)) (bef_here refl n))))

  after : {w r : Op} → Parted w r → place o w < place o r
  after {w} {r} p = bef_place h.pairs (rw p.split (bef_append (Memᴰ.append_right p.front (here refl)) (here refl)))

  -- the places in an order are a witness
  pub orders_witness : Witness (place o) k H
  orders_witness =
      record {
        apart = λ x y m n e. apart x y e (compared o (h.into x m) (h.into y n));
        valid = λ x y m n l. valid x y m l (compared o (h.into x m) (h.into y n));
        after = λ w r d. after (parted w r d);
        near = λ w r d zs c b. let p = parted w r d in
            omega (
              arith,
              p.few,
              no_longer_by (place o) (pairs_map c (λ x y m n l e. omega arith)) (writes p.middle) (λ z m. let z_in = b z m in
                  writes_in p.middle (record { mem = middle_in p z (h.into z z_in.write.mem) z_in.after z_in.before; write = z_in.write.write })),
            );
      }

module _ {k : ℕ} {H : List Op} {pos : Op → ℕ} (g : Proper H) (v : Witness pos k H) where
  -- the operations by position
  unfoldable pub by_position : List Op
  by_position = sort (λ x y. leb (pos x) (pos y)) H

  from_sorted : (x : Op) → In x by_position → In x H
  unfolding by_position
  from_sorted x m = in_sort _ H m

  into_sorted : (x : Op) → In x H → In x by_position
  unfolding by_position
  into_sorted x m = sort_in _ H m

  climbs : Climbs pos by_position
  unfolding by_position
  climbs = pairs_map (by_key pos (λ x y n e. n (sym e)) g.rows) (λ x y m n h. let d : pos x ≢ pos y = λ e. h.1 (ap (λ o. o.row) (v.apart x y (in_sort _ H m) (in_sort _ H n) e)) in omega arith)

  may_stand : (x y : Op) → In x H → In y H → pos x < pos y → Before x y
  may_stand x y m n h = record { apart = λ e. omega (arith, ap pos (named g.rows x y m n e)); valid = λ l. omega (arith, v.valid y x n m l) }

  -- a read's write stands in front of it, with fewer than k writes between
  found : (a : List Op) (r : Op) (c : List Op) → Climbs pos (a ++ (r ∷ c)) → ((x : Op) → In x (a ++ (r ∷ c)) → In x H) → (w : Op) → Reads H w r →
      In w (a ++ (r ∷ c)) → Near k a r.value
  found a r c p from w d m = go (Memᴰ.append_cases a m)
    where
      between : (f b : List Op) → a ≡ f ++ (w ∷ b) → (z : Op) → Write b z → Between pos H w r z
      between f b e z n =
          let i : In z a = rw e (Memᴰ.append_right f (there n.mem)) in
          record {
            write = record { mem = from z (Memᴰ.append_left (r ∷ c) i); write = n.write };
            after = pairs_head (pairs_behind f (rw e at (pairs_front a (r ∷ c) p))) z n.mem;
            before = pairs_across a p z r i (here refl);
          }

      near : (f b : List Op) → a ≡ f ++ (w ∷ b) → Near k a r.value
      near f b e =
          record {
            front = f;
            by = w;
            back = b;
            split = e;
            write = d.by.write;
            same = d.same;
            few = v.near w r d (writes b) (pairs_keep is_write (pairs_tail (pairs_behind f (rw e at (pairs_front a (r ∷ c) p))))) (λ z n. between f b e z (in_writes b n));
          }

      go : In w a ⊎ In w (r ∷ c) → Near k a r.value
      go (inl i) = let s = split_at i in near s.0 s.1 s.2
      go (inr (here e)) = absurd (omega (arith, v.after w r d, ap pos e))
      go (inr (there i)) = absurd (omega (arith, v.after w r d, pairs_head (pairs_behind a p) w i))

  near_by : AllNear k by_position
  near_by a r c e d =
      let from : (x : Op) → In x (a ++ (r ∷ c)) → In x H = λ x m. from_sorted x (rw e m) in
      let w = g.dict r (from r (Memᴰ.append_right a (here refl))) d in
      found a r c (rw e at climbs) from w.0 w.1 (rw e at (into_sorted w.0 w.1.by.mem))

  -- the operations by position are an order
  pub witness_orders : Orders k H by_position
  witness_orders =
      record {
        from = from_sorted;
        into = into_sorted;
        pairs = pairs_map climbs (λ x y m n h. may_stand x y (from_sorted x m) (from_sorted y n) h);
        passed = passed by_position [];
        runs = near_runs by_position near_by;
      }
