-- The maximal runs of forward clusters (document 01, "FZF"): each is linked, and they are apart in time.
-- Assumes nothing.
use Prim.Native.Nat.{◌≤◌, ◌<◌, max}
use mathlib.Core.Path.{◌≡◌, refl, ap}
use mathlib.Core.Logic.{◌⊎◌, inl, inr, ◌≢◌}
use mathlib.Core.Bool.{Bool, true, false}
use mathlib.Core.List.Memᴰ
use mathlib.Core.List.Memᴰ.{eq_of_singleton as alone}
use mathlib.Core.List.Memᴰ.{head as here}
use mathlib.Core.List.Memᴰ.{tail as there}
use mathlib.Core.List.{List, [], ◌∷◌, ◌++◌, append_assoc, flat_map, Memᴰ as In}
use native.Mathlib.Omega.{arith}
use native.Mathlib.Decide.{dec_le}
use lib.Dec.{ltb}
use borrow.Author.Tests.{ltb-true, ltb-false, not-true}
use Rattle.lists.specs.Lists.{keep}
use Rattle.lists.specs.Sorts.{sort}
use Rattle.lists.specs.Pairs.{Pairs, nil, cons}
use Rattle.lists.proofs.Tests.{test, true_not}
use Rattle.lists.proofs.Members.{in_keep, keep_in}
use Rattle.lists.proofs.Maps.{flat_in}
use Rattle.lists.proofs.Pairs.{pairs_one, pairs_head, pairs_front, pairs_behind, pairs_across, pairs_keep, pairs_map}
use Rattle.lists.proofs.Sorts.{in_sort, sort_in, sort_apart, by_key}
use Rattle.history.specs.declared.Op.{Op}
use Rattle.methods.specs.Place.{writes}
use Rattle.methods.specs.Zones.{low, high, forward, backward, first_finish, last_start, zone_of, low_first}
use Rattle.methods.specs.Fzf.{Run, forwards, new_run, extend, grow, runs, forward_writes, backward_writes, all_runs}
use Rattle.witnesses.specs.Histories.{Write, Prepared}
use Rattle.witnesses.proofs.Parts.{in_writes, writes_in}
use Rattle.chunks.specs.Chunk.{Rising}
use Rattle.viability.specs.Runs.{Forward, IsRun}
use Rattle.clusters.proofs.Clusters.{Differ, differ_sym, first_finish_lem, writes_apart}

-- what holds of a list's elements and of one more
with_last : {P : Op → Type 0} (l : List Op) {x : Op} → ((w : Op) → In w l → P w) → P x → (w : Op) → In w (l ++ x ∷ []) → P w
with_last {P} l {x} h p w m = go (Memᴰ.append_cases l m)
  where
    go : In w l ⊎ In w (x ∷ []) → P w
    go (inl n) = h w n
    go (inr n) = rw (alone n) p

module _ (H : List Op) where
  new_run_lem : (x : Op) → Forward H x → IsRun H (new_run H x)
  new_run_lem x h =
      record {
        rising = pairs_one x;
        forth = λ w m. rw (alone m) h;
        linked = λ y m. elim m [ ];
        below = λ w m. rw (alone m) (omega arith);
        reached = (x, here refl, omega arith);
      }

  extend_run : (r : Run) (x : Op) → IsRun H r → Forward H x → Rising (first_finish H) (forwards (extend H r x)) → low (zone_of H x) < r.top →
      IsRun H (extend H r x)
  extend_run r x k h p t =
      record {
        rising = p;
        forth = with_last (forwards r) k.forth h;
        linked = with_last r.more (λ w m. let (y, i, a, b) = k.linked w m in (y, old i, a, b))
            (let (y, i, e) = k.reached in (y, old i, pairs_across (forwards r) p y x i (here refl), omega arith));
        below = with_last (forwards r) (λ w m. omega (arith, k.below w m)) (omega arith);
        reached = reached (dec_le r.top (last_start H x));
      }
    where
      old : {w : Op} → In w (forwards r) → In w (forwards r ++ x ∷ [])
      old m = Memᴰ.append_left (x ∷ []) m

      reached : Dec (r.top ≤ last_start H x) → (w : Op) × In w (forwards r ++ x ∷ []) × (max r.top (high (zone_of H x)) ≡ last_start H w)
      reached (yes d) = (x, Memᴰ.append_right (forwards r) (here refl), omega arith)
      reached (no d) = let (y, i, e) = k.reached in (y, old i, omega arith)

  -- The list l cut into runs.
  pub record Cut (l : List Op) (rs : List Run) : Type 0 where
    pub each : (r : Run) → In r rs → IsRun H r
    pub apart : Pairs (λ r q. r.top ≤ first_finish H q.first) rs
    pub whole : flat_map forwards rs ≡ l

  grow? : (r : Run) (l : List Op) → IsRun H r → ((x : Op) → In x l → Forward H x) → Rising (first_finish H) (forwards r ++ l) →
      Cut (forwards r ++ l) (grow H r l)
  unfolding grow flat_map
  grow? r [] k h p = record { each = λ q m. rw (alone m) k; apart = pairs_one r; whole = refl }
  grow? r (x ∷ l) k h p =
      go (ltb (low (zone_of H x)) r.top) refl
      (λ t. grow? (extend H r x) l (extend_run r x k (h x (here refl)) (pairs_front _ l longer) t) (λ y m. h y (there m)) longer)
      (grow? (new_run H x) l (new_run_lem x (h x (here refl))) (λ y m. h y (there m)) behind)
    where
      longer : Rising (first_finish H) (forwards (extend H r x) ++ l)
      longer = rw append_assoc p

      behind : Rising (first_finish H) (x ∷ l)
      behind = pairs_behind (forwards r) p

      new : r.top ≤ low (zone_of H x) → {rs : List Run} → Cut (x ∷ l) rs → Cut (forwards r ++ x ∷ l) (r ∷ rs)
      new t {rs} c =
          record {
            each = each;
            apart = cons {x = r} {l = rs} (λ q m. next q (rw c.whole at (flat_in forwards m (here refl)))) c.apart;
            whole = ap (λ k. forwards r ++ k) c.whole;
          }
        where
          each : (q : Run) → In q (r ∷ rs) → IsRun H q
          each q (here e) = rw e k
          each q (there m) = c.each q m

          next : (q : Run) → In q.first (x ∷ l) → r.top ≤ first_finish H q.first
          next q (here e) = omega (arith, t, ap (first_finish H) e)
          next q (there m) = omega (arith, t, pairs_head behind q.first m)

      go : (b : Bool) → ltb (low (zone_of H x)) r.top ≡ b →
          (low (zone_of H x) < r.top → Cut (forwards (extend H r x) ++ l) (grow H (extend H r x) l)) → Cut (x ∷ l) (grow H (new_run H x) l) →
          Cut (forwards r ++ x ∷ l) (elim b [ true ↦ grow H (extend H r x) l | false ↦ r ∷ grow H (new_run H x) l ])
      go true e a c = rw append_assoc at (a (ltb-true _ _ e))
      go false e a c = new (ltb-false _ _ e) c

  runs? : (l : List Op) → ((x : Op) → In x l → Forward H x) → Rising (first_finish H) l → Cut l (runs H l)
  unfolding runs flat_map
  runs? [] h p = record { each = λ r m. elim m [ ]; apart = nil; whole = refl }
  runs? (x ∷ l) h p = grow? (new_run H x) l (new_run_lem x (h x (here refl))) (λ y m. h y (there m)) p

  -- The forward writes and the backward ones.

  abbrev is_forward : Op → Bool
  is_forward w = forward (zone_of H w)

  abbrev is_backward : Op → Bool
  is_backward w = backward (zone_of H w)

  pub in_forward : {w : Op} → In w (forward_writes H) → Write H w × Forward H w
  unfolding forward_writes
  in_forward m = let k = in_keep is_forward (writes H) (in_sort (low_first H) _ m) in (in_writes H k.0, ltb-true _ _ k.1)

  pub in_backward : {w : Op} → In w (backward_writes H) → Write H w × (last_start H w ≤ first_finish H w)
  unfolding backward_writes
  in_backward m = let k = in_keep is_backward (writes H) (in_sort (low_first H) _ m) in (in_writes H k.0, ltb-false _ _ (not-true _ k.1))

  pub forward_or_backward : {w : Op} → Write H w → In w (forward_writes H) ⊎ In w (backward_writes H)
  unfolding forward_writes backward_writes
  forward_or_backward {w} k = go (test (is_forward w))
    where
      Sorted : (Op → Bool) → Type 0
      Sorted p = In w (sort (low_first H) (keep p (writes H)))

      sorted : (p : Op → Bool) → p w ≡ true → Sorted p
      sorted p e = sort_in (low_first H) _ (keep_in p (writes H) (writes_in H k) e)

      go : (is_forward w ≡ true) ⊎ (is_forward w ≡ false) → Sorted is_forward ⊎ Sorted is_backward
      go (inl e) = inl (sorted is_forward e)
      go (inr e) = inr (sorted is_backward (true_not e))

module _ {H : List Op} (g : Prepared H) where
  pub backward_apart : Pairs Differ (backward_writes H)
  unfolding backward_writes
  backward_apart = sort_apart (low_first H) Differ differ_sym (pairs_keep (is_backward H) (writes_apart g))

  forward_rising : Rising (first_finish H) (forward_writes H)
  unfolding forward_writes
  forward_rising =
      pairs_map (by_key (λ w. low (zone_of H w)) differ_sym (pairs_keep (is_forward H) (writes_apart g)))
      (λ v w m n r. strict v w (in_forward H m) (in_forward H n) r.0 r.1)
    where
      strict : (v w : Op) → Write H v × Forward H v → Write H w × Forward H w → low (zone_of H v) ≤ low (zone_of H w) → Differ v w →
          first_finish H v < first_finish H w
      strict v w (kv, a) (kw, b) h n =
          let d : v.finish ≢ w.finish = λ e. n (ap (λ o. o.value) (g.ends v w kv.mem kw.mem e)) in
          omega (arith, first_finish_lem g kv, first_finish_lem g kw)

  pub all_runs_lem : Cut H (forward_writes H) (all_runs H)
  all_runs_lem = runs? H (forward_writes H) (λ x m. (in_forward H m).1) forward_rising
