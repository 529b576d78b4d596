-- What FZF cuts a history into (document 01, "FZF"): every cluster is in an item, and of two items the one with the lower low end may come first.
-- Assumes nothing.
use Prim.Native.Nat.{◌≤◌, ◌<◌}
use mathlib.Core.Path.{◌≡◌, refl, sym, ap}
use mathlib.Core.Logic.{◌⊎◌, inl, inr}
use mathlib.Core.Bool.{Bool, true, false, not}
use mathlib.Core.List.Memᴰ
use mathlib.Core.List.Memᴰ.{eq_of_singleton as alone}
use mathlib.Core.List.Memᴰ.{head as here}
use mathlib.Core.List.{List, map, Memᴰ as In}
use native.Mathlib.Omega.{arith}
use native.Mathlib.Decide.{dec_lt}
use borrow.Author.Tests.{not-true, not-false}
use Rattle.lists.specs.Pairs.{Pairs}
use Rattle.lists.specs.Sorts.{sort}
use Rattle.lists.proofs.Tests.{Told, told_true, true_told, told_as, told_and, told_ltb, both}
use Rattle.lists.proofs.Members.{in_keep, keep_in}
use Rattle.lists.proofs.Every.{All?, some_not, all?, all_true}
use Rattle.lists.proofs.Maps.{in_map, map_in, in_flat, flat_in}
use Rattle.lists.proofs.Pairs.{pairs_keep, pairs_append, pairs_map, pairs_image}
use Rattle.lists.proofs.Sorts.{in_sort, sort_in, by_key}
use Rattle.history.specs.declared.Op.{Op}
use Rattle.methods.specs.Zones.{low, high, first_finish, last_start, zone_of}
use Rattle.methods.specs.Fzf.{Run, forwards, Item, chunk, dangling, forward_writes, backward_writes, all_runs, spans, inner, dangles, dangling_writes, all_items, writes_of, low_of, item_first, items}
use Rattle.witnesses.specs.Histories.{Write, Prepared}
use Rattle.chunks.proofs.Rising.{rising_least}
use Rattle.clusters.proofs.Clusters.{Differ, differ_sym, not_last}
use Rattle.viability.specs.Runs.{IsRun}
use Rattle.viability.proofs.Runs.{in_forward, in_backward, forward_or_backward, backward_apart, all_runs_lem}

module _ (H : List Op) where
  -- the clusters of i may come before those of j
  abbrev Turn : Item → Item → Type 0
  Turn i j = (v w : Op) → In v (writes_of H i) → In w (writes_of H j) → Differ v w × (last_start H v ≤ first_finish H w)

  -- so may those of the item with the lower low end
  abbrev Clear : Item → Item → Type 0
  Clear i j = (low_of H i ≤ low_of H j → Turn i j) × (low_of H j ≤ low_of H i → Turn j i)

  -- the zone of b is inside the run's union
  pub record Inside (r : Run) (b : Op) : Type 0 where
    pub above : low (zone_of H r.first) < low (zone_of H b)
    pub under : high (zone_of H b) < r.top

  inside? : (r : Run) (b : Op) → Told (Inside r b) (spans H r b)
  inside? r b =
      told_as (λ h. record { above = h.0; under = h.1 }) (λ i. (i.above, i.under))
      (told_and (told_ltb (low (zone_of H r.first)) (low (zone_of H b))) (told_ltb (high (zone_of H b)) r.top))

  pub in_inner : (r : Run) {b : Op} → In b (inner H r) → In b (backward_writes H) × Inside r b
  in_inner r {b} m = let k = in_keep (spans H r) (backward_writes H) m in (k.0, told_true (inside? r b) k.1)

  -- what dangles is inside no run
  in_dangling : {b : Op} → In b (dangling_writes H) → In b (backward_writes H) × ((r : Run) → In r (all_runs H) → Inside r b → ⊥)
  in_dangling {b} m =
      let k = in_keep (dangles H) (backward_writes H) m in
      (k.0, λ r n i. both (true_told (inside? r b) i) (not-true _ (all_true (λ q. not (spans H q b)) (all_runs H) k.1 r n)))

  pub data Item? : Item → Type 0 where
    is_chunk : (r : Run) → In r (all_runs H) → Item? (chunk r)
    is_dangling : (b : Op) → In b (dangling_writes H) → Item? (dangling b)

  pub item? : (i : Item) → In i (items H) → Item? i
  unfolding items
  item? i m = go (Memᴰ.append_cases (map chunk (all_runs H)) (in_sort (item_first H) _ m))
    where
      go : In i (map chunk (all_runs H)) ⊎ In i (map dangling (dangling_writes H)) → Item? i
      go (inl n) = let (r, k, e) = in_map chunk (all_runs H) n in rw e (is_chunk r k)
      go (inr n) = let (b, k, e) = in_map dangling (dangling_writes H) n in rw e (is_dangling b k)

  -- A cluster of a chunk lies from the low end of the chunk's first to the run's top.
  record Lies (r : Run) (w : Op) : Type 0 where
    write : Write H w
    from : first_finish H r.first ≤ low (zone_of H w)
    to : low (zone_of H w) < r.top
    until : last_start H w ≤ r.top

module _ {H : List Op} (g : Prepared H) where
  lies : (r : Run) → In r (all_runs H) → (w : Op) → In w (writes_of H (chunk r)) → Lies H r w
  lies r m w n = go (Memᴰ.append_cases (forwards r) n)
    where
      k : IsRun H r
      k = (all_runs_lem g).each r m

      go : In w (forwards r) ⊎ In w (inner H r) → Lies H r w
      go (inl i) =
          let a = k.forth w i in
          let b = k.below w i in
          let c : first_finish H r.first ≤ first_finish H w = rising_least (first_finish H) k.rising i in
          record { write = (in_forward H (rw (all_runs_lem g).whole at (flat_in forwards m i))).0; from = omega arith; to = omega arith; until = b }
      go (inr i) =
          let (b, c) = in_inner H r i in
          let (d, e) = in_backward H b in
          let a = k.forth r.first (here refl) in
          record { write = d; from = omega (arith, c.above); to = omega (arith, c.under); until = omega (arith, c.under) }

  -- Two chunks, a chunk and a dangling cluster, two dangling clusters.

  two_chunks : (r q : Run) → In r (all_runs H) → In q (all_runs H) → r.top ≤ first_finish H q.first → Clear H (chunk r) (chunk q)
  two_chunks r q m n t =
      let a = lies r m r.first (here refl) in
      let b = lies q n q.first (here refl) in
      (λ h. turn, λ h. absurd (omega (arith, a.to, b.from)))
    where
      turn : Turn H (chunk r) (chunk q)
      turn v w i j =
          let a = lies r m v i in
          let b = lies q n w j in
          let differ : Differ v w = λ e. omega (arith, a.to, b.from, ap (λ x. low (zone_of H x)) (g.proper.one v w a.write b.write e)) in
          (differ, omega (arith, a.until, b.from))

  mixed : (r : Run) (b : Op) → In r (all_runs H) → In b (dangling_writes H) → Clear H (chunk r) (dangling b)
  mixed r b m n = (first, second)
    where
      k : IsRun H r
      k = (all_runs_lem g).each r m

      out : Inside H r b → ⊥
      out = (in_dangling H n).1 r m

      kb : Write H b × (last_start H b ≤ first_finish H b)
      kb = in_backward H (in_dangling H n).0

      other : (v : Op) → In v (writes_of H (chunk r)) → v.value ≡ b.value → ⊥
      other v i q = go (g.proper.one v b (lies r m v i).write kb.0 q) (Memᴰ.append_cases (forwards r) i)
        where
          go : v ≡ b → In v (forwards r) ⊎ In v (inner H r) → ⊥
          go e (inl j) = omega (arith, k.forth v j, kb.1, ap (first_finish H) e, ap (last_start H) e)
          go e (inr j) = out (rw e at (in_inner H r j).1)

      -- b starts inside the run's union and is not inside it, so it ends past it
      past : low (zone_of H r.first) ≤ low (zone_of H b) → r.top ≤ first_finish H b
      past h = go (dec_lt (high (zone_of H b)) r.top)
        where
          above : low (zone_of H r.first) < low (zone_of H b)
          above = omega (arith, k.forth r.first (here refl), kb.1, not_last g (lies r m r.first (here refl)).write kb.0)

          go : Dec (high (zone_of H b) < r.top) → r.top ≤ first_finish H b
          go (yes u) = absurd (out (record { above = above; under = u }))
          go (no u) = omega (arith, kb.1)

      first : low (zone_of H r.first) ≤ low (zone_of H b) → Turn H (chunk r) (dangling b)
      first h v w i j = rw (alone j) (other v i, omega (arith, (lies r m v i).until, past h))

      second : low (zone_of H b) ≤ low (zone_of H r.first) → Turn H (dangling b) (chunk r)
      second h v w i j = rw (alone i) (λ e. other w j (sym e), omega (arith, (lies r m w j).from, kb.1))

  two_dangling : (b c : Op) → In b (dangling_writes H) → In c (dangling_writes H) → Differ b c → Clear H (dangling b) (dangling c)
  two_dangling b c m n d = (turn b c m d, turn c b n (differ_sym b c d))
    where
      turn : (b c : Op) → In b (dangling_writes H) → Differ b c → low (zone_of H b) ≤ low (zone_of H c) → Turn H (dangling b) (dangling c)
      turn b c m d h v w i j = rw (alone i, alone j) (d, omega (arith, (in_backward H (in_dangling H m).0).1))

  all_clear : Pairs (Clear H) (all_items H)
  all_clear =
      pairs_append
      (pairs_image chunk (pairs_map (all_runs_lem g).apart two_chunks))
      (pairs_image dangling (pairs_map (pairs_keep (dangles H) (backward_apart g)) two_dangling))
      (λ i j m n.
      let (r, k, e) = in_map chunk (all_runs H) m in
      let (b, l, q) = in_map dangling (dangling_writes H) n in
      rw (e, q) (mixed r b k l))

  pub turns : Pairs (Turn H) (items H)
  unfolding items
  turns = pairs_map (by_key (low_of H) (λ i j c. (c.1, c.0)) all_clear) (λ i j m n r. r.1.0 r.0)

  -- An item's writes are the history's, and each cluster is in an item.

  pub item_writes : (i : Item) → Item? H i → (w : Op) → In w (writes_of H i) → Write H w
  item_writes i (is_chunk r m) w n = (lies r m w n).write
  item_writes i (is_dangling b m) w n = rw (alone n) (in_backward H (in_dangling H m).0).0

  pub in_item : (w : Op) → Write H w → (i : Item) × In i (items H) × In w (writes_of H i)
  unfolding items
  in_item w k = go (forward_or_backward H k)
    where
      Found : Type 0
      Found = (i : Item) × In i (sort (item_first H) (all_items H)) × In w (writes_of H i)

      put : (i : Item) → In i (all_items H) → In w (writes_of H i) → Found
      put i m n = (i, sort_in (item_first H) _ m, n)

      in_chunk : (r : Run) → In r (all_runs H) → In w (writes_of H (chunk r)) → Found
      in_chunk r m n = put (chunk r) (Memᴰ.append_left _ (map_in chunk m)) n

      back : In w (backward_writes H) → (b : Bool) → All? (λ r. not (spans H r w)) (all_runs H) b → dangles H w ≡ b → Found
      back m true a e =
          put (dangling w) (Memᴰ.append_right (map chunk (all_runs H)) (map_in dangling (keep_in (dangles H) (backward_writes H) m e))) (here refl)
      back m false (some_not r n q) e = in_chunk r n (Memᴰ.append_right (forwards r) (keep_in (spans H r) (backward_writes H) m (not-false _ q)))

      go : In w (forward_writes H) ⊎ In w (backward_writes H) → Found
      go (inl m) = let (r, n, i) = in_flat forwards (all_runs H) {y = w} (rw (all_runs_lem g).whole m) in in_chunk r n (Memᴰ.append_left (inner H r) i)
      go (inr m) = back m _ (all? (λ r. not (spans H r w)) (all_runs H)) refl
