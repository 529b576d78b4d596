-- FZF decides 2-atomicity (document 01, "FZF"): its order is valid and 2-atomic, and where it has none there is none.
-- Assumes nothing.
use Prim.Native.Nat.{ℕ, ◌≤◌}
use mathlib.Core.Path.{◌≡◌, refl, sym, ap, ◌∙◌}
use mathlib.Core.Logic.{◌⊎◌, inl, inr, ⊎_elim}
use mathlib.Core.List.Memᴰ
use mathlib.Core.List.Memᴰ.{eq_of_singleton as alone}
use mathlib.Core.List.Memᴰ.{head as here}
use mathlib.Core.List.Memᴰ.{tail as there}
use mathlib.Core.List.{List, [], ◌∷◌, flat_map, Memᴰ as In, append_assoc, ◌++◌}
use native.Mathlib.Omega.{arith}
use lib.ListN.{length}
use Rattle.lists.specs.Pairs.{Pairs, nil, cons}
use Rattle.lists.proofs.Maps.{in_flat}
use Rattle.lists.proofs.Pairs.{pairs_one, pairs_keep, pairs_append, pairs_front, pairs_map}
use Rattle.lists.proofs.Cover.{no_longer_by}
use Rattle.history.specs.declared.Op.{Op}
use Rattle.methods.specs.Zones.{Decision, none, order, cluster, first_finish, last_start}
use Rattle.methods.specs.Fzf.{Run, forwards, Item, chunk, dangling, all_runs, spans, inner, listed, back, writes_of, part, made, items, put_before, join, fzf}
use Rattle.witnesses.specs.Histories.{Write, Prepared}
use Rattle.witnesses.specs.Orders.{Orders}
use Rattle.witnesses.specs.Decides.{no_order, an_order}
use Rattle.witnesses.specs.Witness.{Witness}
use Rattle.witnesses.proofs.Parts.{witness_sub}
use Rattle.witnesses.proofs.Positions.{orders_witness}
use Rattle.witnesses.proofs.Near.{near_two}
use Rattle.witnesses.proofs.Join.{join_pairs, joins}
use Rattle.chunks.specs.Chunk.{Rising, Chunk, Placing}
use Rattle.chunks.proofs.Around.{ordered}
use Rattle.clusters.proofs.Clusters.{Differ, in_only, only_in, prepared_only, not_last, home, follows, cluster_orders, before_or_between}
use Rattle.viability.specs.Runs.{IsRun}
use Rattle.viability.specs.Fzf.{FzfDecides}
use Rattle.viability.proofs.Listed.{p_trans, perm_sym, perm_in, perm_back, listed_perm, allowed_listed}
use Rattle.viability.proofs.Viable.{not_none, same_order, Covers, covers_perm, Falls, viable_complete, first_orders, first_found}
use Rattle.viability.proofs.Runs.{in_backward, backward_apart, all_runs_lem}
use Rattle.viability.proofs.Items.{in_inner, turns, Item?, is_chunk, is_dangling, item?, item_writes, in_item}

-- an order of rising positions, told from its end, falls
falls_back : (pos : Op → ℕ) {l : List Op} → Rising pos l → Falls pos (back l)
unfolding back
falls_back pos nil = nil
falls_back pos (cons {x = x} {l = l} u t) =
    pairs_append (falls_back pos t) (pairs_one x) (λ y z m n. rw (alone n) (u y (perm_in (perm_sym (perm_back l)) m)))

-- The items joined: each is made, or one is not.
module _ (H : List Op) where
  taken : Decision → List Op
  taken none = []
  taken (order o) = o

  -- an item's order, where it has one
  pub order_of : Item → List Op
  order_of i = taken (made H i)

  pub made_order : (i : Item) (o : List Op) → made H i ≡ order o → order_of i ≡ o
  unfolding order_of taken
  made_order i o e = rw e

  data Joined? (l : List Item) : Decision → Type 0 where
    not_joined : (i : Item) → In i l → made H i ≡ none → Joined? l none
    joined : ((i : Item) → In i l → made H i ≡ order (order_of i)) → Joined? l (order (flat_map order_of l))

  join? : (l : List Item) → Joined? l (join H l)
  unfolding join put_before flat_map order_of taken
  join? [] = joined (λ i m. elim m [ ])
  join? (i ∷ l) = go (made H i) refl (join H l) (join? l)
    where
      each : {o : List Op} → made H i ≡ order o → ((j : Item) → In j l → made H j ≡ order (order_of j)) → (j : Item) → In j (i ∷ l) →
          made H j ≡ order (order_of j)
      each q h j (here e) = rw (e, q)
      each q h j (there m) = h j m

      go : (a : Decision) → made H i ≡ a → (b : Decision) → Joined? l b → Joined? (i ∷ l) (elim a [ none ↦ none | order o ↦ put_before o b ])
      go none q b k = not_joined i (here refl) q
      go (order o) q none (not_joined j m e) = not_joined j (there m) e
      go (order o) q (order p) (joined h) =
          let k : Joined? (i ∷ l) (order (flat_map order_of (i ∷ l))) = joined (each q h) in
          rw q at k

  -- the first items are made: what is joined is theirs, then that of the others
  pub join_done : (a b : List Item) → ((i : Item) → In i a → made H i ≡ order (order_of i)) → join H (a ++ b) ≡ put_before (flat_map order_of a) (join H b)
  unfolding join put_before flat_map
  join_done [] b h = before_nil (join H b)
    where
      before_nil : (d : Decision) → d ≡ put_before [] d
      before_nil none = refl
      before_nil (order o) = refl
  join_done (i ∷ a) b h = go (made H i) (h i (here refl)) (join_done a b (λ j m. h j (there m)))
    where
      twice : (x y : List Op) (d : Decision) → put_before x (put_before y d) ≡ put_before (x ++ y) d
      twice x y none = refl
      twice x y (order o) = ap order (sym (append_assoc x y o))

      go : (d : Decision) → d ≡ order (order_of i) → join H (a ++ b) ≡ put_before (flat_map order_of a) (join H b) →
          ◌≡◌ {A = Decision} (elim d as (λ d. Decision) [ none ↦ none | order o ↦ put_before o (join H (a ++ b)) ]) (put_before (order_of i ++ flat_map order_of a) (join H b))
      go d e ih = rw e (ap (put_before (order_of i)) ih ∙ twice (order_of i) (flat_map order_of a) (join H b))

module _ {H : List Op} (g : Prepared H) where
  -- The writes of a chunk, each once.
  module _ (r : Run) (m : In r (all_runs H)) where
    run : IsRun H r
    run = (all_runs_lem g).each r m

    wr : (w : Op) → In w (writes_of H (chunk r)) → Write H w
    wr = item_writes g (chunk r) (is_chunk r m)

    chunk_apart : Pairs Differ (writes_of H (chunk r))
    chunk_apart =
        pairs_append
        (pairs_map run.rising (λ v w i j h e. omega (arith, h, ap (first_finish H) (g.proper.one v w (on i) (on j) e))))
        (pairs_keep (spans H r) (backward_apart g))
        (λ v w i j e.
        let (b, l) = in_backward H (in_inner H r j).0 in
        let q = g.proper.one v w (on i) b e in
        omega (arith, run.forth v i, l, ap (first_finish H) q, ap (last_start H) q))
      where
        on : {v : Op} → In v (forwards r) → Write H v
        on i = wr _ (Memᴰ.append_left (inner H r) i)

    covers_chunk : Covers (writes_of H (chunk r)) (part H (chunk r))
    covers_chunk =
        record {
          from = λ w i. record { mem = only_in ws H (wr w i).mem i refl; write = (wr w i).write };
          into = λ w h.
              let (i, (v, n, e)) = in_only ws H h.mem in
              Memᴰ.cast (g.proper.one w v (record { mem = i; write = h.write }) (wr v n) e) n;
          apart = chunk_apart;
        }
      where
        ws : List Op
        ws = writes_of H (chunk r)

    covers_listed : (t : List Op) → In t (listed (forwards r) (inner H r)) → Covers (back t) (part H (chunk r))
    covers_listed t n = covers_perm (p_trans (listed_perm (forwards r) (inner H r) n) (perm_back t)) covers_chunk

    -- COMPLETE: with a witness, a chunk has a viable order among those listed.
    module _ {pos : Op → ℕ} (v : Witness pos 2 H) where
      is_a_chunk : Chunk (first_finish H) (last_start H) r.first r.more (inner H r)
      is_a_chunk =
          record {
            rising = run.rising;
            forward = run.forth;
            linked = run.linked;
            backward = λ b i. let (c, l) = in_backward H (in_inner H r i).0 in omega (arith, l, not_last g c c);
            above = λ b i. omega (arith, (in_inner H r i).1.above, run.forth r.first (here refl));
            below = λ b i. let (w, j, e) = run.reached in (w, j, omega (arith, (in_inner H r i).1.under));
            distinct = pairs_map (pairs_keep (spans H r) (backward_apart g)) (λ x y i j n e. n (ap (λ o. o.value) e));
          }

      -- a write that finishes before the largest start of another's cluster comes before that write or is the very next
      is_placed : Placing (first_finish H) (last_start H) pos (writes_of H (chunk r))
      is_placed =
          record {
            apart = λ x y i j e. v.apart x y (wr x i).mem (wr y j).mem e;
            rule = λ x c i j n h. ⊎_elim inl
                (λ b.
                let (o, d, s, e) = b in
                inr (s, λ z l p q. omega (arith, ap pos (near_two v c o d x z (wr x i) (wr z l) s e p (omega arith)))))
                (before_or_between g v (wr x i) (wr c j) n h);
          }

      chunk_found : (o : List Op) × (made H (chunk r) ≡ order o)
      unfolding made
      chunk_found =
          let (l, rising, (u, shape, ends)) = ordered is_a_chunk is_placed in
          let n = allowed_listed (forwards r) (inner H r) u l shape ends in
          let (o, e) =
          viable_complete pos (back l) (part H (chunk r)) (prepared_only g (writes_of H (chunk r)))
          (witness_sub (λ x i. (in_only (writes_of H (chunk r)) H i).0) v) (covers_listed l n) (falls_back pos rising) in
          first_found (listed (forwards r) (inner H r)) (part H (chunk r)) l o n e

  -- SOUND: an item's order is an order of its clusters, and the joined orders are one of the history.

  made_orders : (i : Item) → Item? H i → (o : List Op) → made H i ≡ order o → Orders 2 (part H i) o
  unfolding made
  made_orders i (is_chunk r m) o e =
      first_orders (listed (forwards r) (inner H r)) (part H (chunk r)) (prepared_only g (writes_of H (chunk r))) (covers_listed r m) o e
  made_orders i (is_dangling b m) o e = rw (same_order e) at (cluster_orders g 1 (item_writes g (dangling b) (is_dangling b m) b (here refl)))

  items_order : ((i : Item) → In i (items H) → made H i ≡ order (order_of H i)) → Orders 2 H (flat_map (order_of H) (items H))
  items_order h =
      joins (part H) (order_of H) H (items H)
      (λ i m. made_orders i (item? H i m) (order_of H i) (h i m))
      (pairs_map (turns g) (λ i j m n t. follows g (writes_of H i) (writes_of H j) (item_writes g i (item? H i m)) (item_writes g j (item? H j n)) t))
      (λ i m x n. (in_only (writes_of H i) H n).0)
      (λ x m.
      let (w, k, e) = home g x m in
      let (i, n, j) = in_item g w k in
      (i, n, only_in (writes_of H i) H m j e))

  -- what the first items have is no more than the history has
  pub done_short : (a b : List Item) → items H ≡ a ++ b → ((i : Item) → In i a → made H i ≡ order (order_of H i)) → length (flat_map (order_of H) a) ≤ length H
  done_short a b e h =
      no_longer_by (λ x. x.row)
      (pairs_map
      (join_pairs (part H) (order_of H)
      (pairs_map (pairs_front a b (rw e at (turns g))) (λ i j m n t. follows g (writes_of H i) (writes_of H j) (item_writes g i (at i m)) (item_writes g j (at j n)) t))
      orders)
      (λ x y m n r. r.apart))
      H
      (λ x m. let (i, k, l) = in_flat (order_of H) a m in (in_only (writes_of H i) H ((orders i k).from x l)).0)
    where
      at : (i : Item) → In i a → Item? H i
      at i m = item? H i (rw e (Memᴰ.append_left b m))

      orders : (i : Item) → In i a → Orders 2 (part H i) (order_of H i)
      orders i m = made_orders i (at i m) (order_of H i) (h i m)

  -- FZF'S THEOREM
  pub fzf_decides : FzfDecides H (fzf H)
  unfolding fzf made
  fzf_decides = go (join H (items H)) (join? H (items H))
    where
      found : {o : List Op} → Orders 2 H o → (i : Item) → Item? H i → (p : List Op) × (made H i ≡ order p)
      found h i (is_chunk r m) = chunk_found r m (orders_witness g.proper h)
      found h i (is_dangling b m) = (cluster H b, refl)

      go : (a : Decision) → Joined? H (items H) a → FzfDecides H a
      go none (not_joined i m q) = no_order (λ o h. not_none (sym q ∙ (found h i (item? H i m)).1))
      go (order p) (joined h) = an_order (items_order h)
