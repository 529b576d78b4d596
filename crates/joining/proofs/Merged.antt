-- The items of a history are its chunks and its dangling clusters, merged.
-- Assumes nothing.
use Prim.Native.Nat.{ℕ, ◌≤◌, ◌<◌}
use mathlib.Core.Path.{◌≡◌, refl, ap, ◌∙◌}
use mathlib.Core.Bool.{Bool, true, false, cond}
use mathlib.Core.List.Memᴰ.{head as here}
use mathlib.Core.List.Memᴰ.{tail as there}
use mathlib.Core.List.{List, [], ◌∷◌, ◌++◌, map, Memᴰ as In}
use native.Mathlib.Omega.{arith}
use borrow.Author.Tests.{leb-true, leb-false, le-leb, lt-leb}
use Rattle.lists.specs.Sorts.{insert, sort}
use Rattle.lists.specs.Pairs.{Pairs, nil, cons}
use Rattle.lists.proofs.Maps.{in_map}
use Rattle.lists.proofs.Images.{insert_front, sort_sorted}
use Rattle.lists.proofs.Pairs.{pairs_keep, pairs_map, pairs_image}
use Rattle.lists.proofs.Sorts.{sort_ordered}
use Rattle.history.specs.declared.Op.{Op}
use Rattle.methods.specs.Zones.{low, zone_of, low_first}
use Rattle.methods.specs.Fzf.{Run, Item, chunk, dangling, backward_writes, all_runs, dangles, dangling_writes, item_first, items}
use Rattle.witnesses.specs.Histories.{Prepared}
use Rattle.viability.proofs.Runs.{all_runs_lem}
use Rattle.joining.specs.Merge.{weave, merge}

module _ (H : List Op) where
  abbrev lo : Op → ℕ
  lo b = low (zone_of H b)

  abbrev at : Run → ℕ
  at r = low (zone_of H r.first)

  -- an item of two merged lists is of one of them
  data From (rs : List Run) (bs : List Op) : Item → Type 0 where
    of_run : {r : Run} → In r rs → From rs bs (chunk r)
    of_cluster : {b : Op} → In b bs → From rs bs (dangling b)

  module _ (r : Run) (rs : List Run) where
    later : {bs : List Op} {i : Item} → From rs bs i → From (r ∷ rs) bs i
    later (of_run k) = of_run (there k)
    later (of_cluster k) = of_cluster k

    wider : {b : Op} {bs : List Op} {i : Item} → From (r ∷ rs) bs i → From (r ∷ rs) (b ∷ bs) i
    wider (of_run k) = of_run k
    wider (of_cluster k) = of_cluster (there k)

    first : {bs : List Op} {l : List Item} {j : Item} → (In j l → From rs bs j) → In j (chunk r ∷ l) → From (r ∷ rs) bs j
    first f (here e) = rw e (of_run (here refl))
    first f (there k) = later (f k)

    from_weave : {i : Item} → ((bs : List Op) → In i (merge H rs bs) → From rs bs i) → (bs : List Op) → In i (weave H r (merge H rs) bs) → From (r ∷ rs) bs i
    unfolding weave
    from_weave f [] m = first (f []) m
    from_weave {i} f (b ∷ bs) m = pick (item_first H (chunk r) (dangling b)) m (from_weave f bs)
      where
        pick : (c : Bool) → In i (cond c (chunk r ∷ merge H rs (b ∷ bs)) (dangling b ∷ weave H r (merge H rs) bs)) →
            (In i (weave H r (merge H rs) bs) → From (r ∷ rs) bs i) → From (r ∷ rs) (b ∷ bs) i
        pick true k ih = first (f (b ∷ bs)) k
        pick false (here e) ih = rw e (of_cluster (here refl))
        pick false (there k) ih = wider (ih k)

  from_merge : (rs : List Run) (bs : List Op) {i : Item} → In i (merge H rs bs) → From rs bs i
  unfolding merge
  from_merge [] bs m = let k = in_map dangling bs m in rw k.2 (of_cluster k.1)
  from_merge (r ∷ rs) bs m = from_weave r rs (λ cs k. from_merge rs cs k) bs m

  -- a cluster below all the chunks comes first
  cluster_first : (rs : List Run) (b : Op) (bs : List Op) → ((q : Run) → In q rs → lo b < at q) → merge H rs (b ∷ bs) ≡ dangling b ∷ merge H rs bs
  unfolding merge weave
  cluster_first [] b bs h = refl
  cluster_first (q ∷ rs) b bs h = let k = h q (here refl) in rw (lt-leb (at q) (lo b) k)

  -- a chunk below all the others, put in
  insert_weave : (r : Run) (rs : List Run) → ((q : Run) → In q rs → at r ≤ at q) → {bs : List Op} → Pairs (λ b c. lo b ≤ lo c) bs →
      insert (item_first H) (chunk r) (merge H rs bs) ≡ weave H r (merge H rs) bs
  unfolding weave insert
  insert_weave r rs h nil = insert_front (item_first H) (chunk r) (merge H rs []) (λ i m. go i (from_merge rs [] m))
    where
      go : (i : Item) → From rs [] i → item_first H (chunk r) i ≡ true
      go (chunk q) (of_run m) = le-leb (at r) (at q) (h q m)
      go (dangling b) (of_cluster m) = elim m [ ]
  insert_weave r rs h (cons {x = b} {l = bs} u t) = pick (item_first H (chunk r) (dangling b)) refl (insert_weave r rs h t)
    where
      go : at r ≤ lo b → (i : Item) → From rs (b ∷ bs) i → item_first H (chunk r) i ≡ true
      go l (chunk q) (of_run m) = le-leb (at r) (at q) (h q m)
      go l (dangling c) (of_cluster (here e)) = rw e (le-leb (at r) (lo b) l)
      go l (dangling c) (of_cluster (there m)) = le-leb (at r) (lo c) (omega (arith, u c m))

      pick : (c : Bool) → item_first H (chunk r) (dangling b) ≡ c → insert (item_first H) (chunk r) (merge H rs bs) ≡ weave H r (merge H rs) bs →
          insert (item_first H) (chunk r) (merge H rs (b ∷ bs)) ≡ cond c (chunk r ∷ merge H rs (b ∷ bs)) (dangling b ∷ weave H r (merge H rs) bs)
      pick true e ih = insert_front (item_first H) (chunk r) (merge H rs (b ∷ bs)) (λ i m. go (leb-true (at r) (lo b) e) i (from_merge rs (b ∷ bs) m))
      pick false e ih =
          ap (insert (item_first H) (chunk r)) (cluster_first rs b bs (λ q m. omega (arith, h q m, leb-false (at r) (lo b) e)))
          ∙ rw e (ap (λ (l : List Item). dangling b ∷ l) ih)

  merge_sorted : {rs : List Run} → Pairs (λ r q. at r ≤ at q) rs → {bs : List Op} → Pairs (λ b c. lo b ≤ lo c) bs →
      sort (item_first H) (map chunk rs ++ map dangling bs) ≡ merge H rs bs
  unfolding merge sort
  merge_sorted nil p = sort_sorted (item_first H) (pairs_image dangling (pairs_map p (λ b c m n h. le-leb (lo b) (lo c) h)))
  merge_sorted (cons {x = r} {l = rs} u t) p = ap (insert (item_first H) (chunk r)) (merge_sorted t p) ∙ insert_weave r rs u p

-- THE ITEMS of a prepared history
pub items_merge : {H : List Op} → Prepared H → items H ≡ merge H (all_runs H) (dangling_writes H)
unfolding items backward_writes
items_merge {H} g = merge_sorted H runs_rise clusters_rise
  where
    runs_rise : Pairs (λ r q. low (zone_of H r.first) ≤ low (zone_of H q.first)) (all_runs H)
    runs_rise =
        pairs_map (all_runs_lem g).apart
        (λ r q m n h.
        let a = (all_runs_lem g).each r m in
        let b = (all_runs_lem g).each q n in
        omega (arith, h, a.forth r.first (here refl), a.below r.first (here refl), b.forth q.first (here refl)))

    clusters_rise : Pairs (λ b c. low (zone_of H b) ≤ low (zone_of H c)) (dangling_writes H)
    clusters_rise =
        pairs_keep (dangles H)
        (sort_ordered (low_first H) (λ b c. low (zone_of H b) ≤ low (zone_of H c)) (λ b c e. leb-true (low (zone_of H b)) (low (zone_of H c)) e)
        (λ b c e. omega (arith, leb-false (low (zone_of H b)) (low (zone_of H c)) e)) (λ a b c h k. omega arith) _)
