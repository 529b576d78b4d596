-- Which item comes next: the chunk that begins at a, or the dangling cluster at j.
-- Assumes nothing.
use Prim.Native.Nat.{ℕ, suc, ◌+◌, ◌-◌, ◌≤◌, ◌<◌}
use mathlib.Core.Path.{◌≡◌, refl, ap, sym, ◌∙◌}
use mathlib.Core.Bool.{Bool, true, false, cond}
use mathlib.Core.Logic.{◌⊎◌, inl, inr}
use mathlib.Core.List.{List, [], ◌∷◌}
use Rattle.std.specs.Prelude.{Some, None}
use native.Mathlib.Omega.{arith}
use native.Mathlib.Numerals.{add-one}
use lib.ListN.{length, get_or, take, drop, drop_of_length-le, length-drop}
use lib.Seq.{drop-cons, length-take-le}
use lib.Dec.{leb, ltb}
use borrow.Author.Tests.{le-leb, lt-leb}
use Rattle.lists.specs.Lists.{keep, put}
use Rattle.lists.proofs.Tests.{both}
use Rattle.lists.proofs.Cover.{in_drop, in_take}
use Rattle.lists.proofs.Images.{get_d_in, pairs_take, pairs_from}
use Rattle.history.specs.declared.Op.{Op}
use Rattle.methods.specs.declared.Zone.{Zone}
use Rattle.methods.specs.Zones.{order, low, zone_of}
use Rattle.methods.specs.Fzf.{Run, chunk, dangling, new_run, extend, grow, runs, dangles, item_first, made}
use Rattle.positions.specs.Places.{upto}
use Rattle.positions.specs.Columns.{Cols, size, read_of, Sound, op, ops, Of}
use Rattle.positions.proofs.Places.{below}
use Rattle.zones.specs.Zones.{zone_by, Zoned, cluster_at}
use Rattle.zones.proofs.Zone.{cluster_at_lem}
use Rattle.zones.proofs.ByLow.{zone_at}
use Rattle.chunking.specs.declared.Span.{Span}
use Rattle.chunking.specs.Chunks.{Spans, dangles_by}
use Rattle.chunking.specs.Inner.{Behind}
use Rattle.chunking.proofs.Enclosing.{span_stop, span_over}
use Rattle.chunking.proofs.Sides.{side_write, side_in, side_apart}
use Rattle.chunking.proofs.Runs.{run_cut, dangles_is}
use Rattle.joining.specs.Merge.{weave, merge}
use Rattle.joining.specs.Next.{chunk_first}
use Rattle.joining.specs.Items.{forths, backs, Cut, run_of, Chunked, no_order, an_order, remaining, Nexts, ends, goes}

-- what chunk_first says
data First? (finish late F B : List ℕ) (a j : ℕ) : Bool → Type 0 where
  no_chunk : length F ≤ a → First? finish late F B a j false
  no_cluster : a < length F → length B ≤ j → First? finish late F B a j true
  chunk_low : a < length F → j < length B → leb (low (zone_by finish late (get_or F a 0))) (low (zone_by finish late (get_or B j 0))) ≡ true → First? finish late F B a j true
  cluster_low : a < length F → j < length B → leb (low (zone_by finish late (get_or F a 0))) (low (zone_by finish late (get_or B j 0))) ≡ false → First? finish late F B a j false

first? : (finish late F B : List ℕ) (a j : ℕ) → First? finish late F B a j (chunk_first finish late F B a j)
unfolding chunk_first
first? finish late F B a j = go (below a (length F)) (below j (length B))
  where
    lows : Bool
    lows = leb (low (zone_by finish late (get_or F a 0))) (low (zone_by finish late (get_or B j 0)))

    pick : a < length F → j < length B → (b : Bool) → lows ≡ b → First? finish late F B a j b
    pick h k true e = chunk_low h k e
    pick h k false e = cluster_low h k e

    go : (a < length F) ⊎ (length F ≤ a) → (j < length B) ⊎ (length B ≤ j) → First? finish late F B a j (cond (leb (length F) a) false (cond (leb (length B) j) true lows))
    go (inr h) d = rw (le-leb (length F) a h) (no_chunk h)
    go (inl h) (inr k) = rw (lt-leb (length F) a h, le-leb (length B) j k) (no_cluster h k)
    go (inl h) (inl k) = rw (lt-leb (length F) a h, lt-leb (length B) j k) (pick h k lows refl)

-- a part of a list that begins at a
abbrev pub part_of : List ℕ → ℕ → ℕ → List ℕ
part_of l a e = take (e - a) (drop a l)

part_first : (l : List ℕ) (a e : ℕ) → a < e → e ≤ length l → part_of l a e ≡ get_or l a 0 ∷ take (e - (a + 1)) (drop (a + 1) l)
part_first l a e h k =
    let q : e - a ≡ suc (e - (a + 1)) = omega arith in
    rw (q, drop-cons l a 0 (omega arith), add-one a) refl

part_length : (l : List ℕ) (a e : ℕ) → a < e → e ≤ length l → length (part_of l a e) ≤ length l
part_length l a e h k = rw (length-take-le (e - a) (drop a l) (rw (length-drop) (omega arith))) (omega arith)

-- the first run begins with the first write
grow_first : (H : List Op) (r : Run) (l : List Op) → (q : Run) × (rs : List Run) × (grow H r l ≡ q ∷ rs) × (q.first ≡ r.first)
unfolding grow
grow_first H r [] = (r, [], refl, refl)
grow_first H r (x ∷ l) = go (ltb (low (zone_of H x)) r.top) (grow_first H (extend H r x) l)
  where
    go : (b : Bool) → (q : Run) × (rs : List Run) × (grow H (extend H r x) l ≡ q ∷ rs) × (q.first ≡ r.first) →
        (q : Run) × (rs : List Run) × (◌≡◌ {A = List Run} (elim b as (λ b. List Run) [ true ↦ grow H (extend H r x) l | false ↦ r ∷ grow H (new_run H x) l ]) (q ∷ rs)) × (q.first ≡ r.first)
    go true ih = ih
    go false ih = (r, grow H (new_run H x) l, refl, refl)

module _ (C : Cols) (p : Sound C) (late : List ℕ) (g : Zoned C late) where
  abbrev F : List ℕ
  F = forths C late

  abbrev B : List ℕ
  B = backs C late

  -- the cluster at j dangles
  abbrev pub Dangling : ℕ → Type 0
  Dangling j = j < length B → dangles_by C.finish late F (get_or B j 0) ≡ true

  module _ (a j : ℕ) (d : Dangling j) where
    module _ (H : List Op) (o : Of C H) where
      -- the dangling clusters from j on
      clusters_end : length B ≤ j → keep (dangles H) (ops H (drop j B)) ≡ []
      unfolding keep
      clusters_end h = rw (drop_of_length-le B h)

      clusters_one : j < length B → keep (dangles H) (ops H (drop j B)) ≡ op H (get_or B j 0) ∷ keep (dangles H) (ops H (drop (j + 1) B))
      unfolding keep put
      clusters_one h =
          let q : dangles H (op H (get_or B j 0)) ≡ true = dangles_is o late g (get_or B j 0) (side_in C.finish late C.writer false (get_d_in B 0 j h)) ∙ d h in
          let r : drop j B ≡ get_or B j 0 ∷ drop (j + 1) B = rw (add-one j) (drop-cons B j 0 h) in
          rw (r, q)

      -- the low ends are the definition's
      first_is : a < length F → j < length B → (q : Run) → q.first ≡ op H (get_or F a 0) →
          item_first H (chunk q) (dangling (op H (get_or B j 0))) ≡ leb (low (zone_by C.finish late (get_or F a 0))) (low (zone_by C.finish late (get_or B j 0)))
      first_is h k q e =
          ap (λ (x : Op). leb (low (zone_of H x)) (low (zone_of H (op H (get_or B j 0))))) e
          ∙ ap (λ (z : Zone). leb (low z) (low (zone_of H (op H (get_or B j 0))))) (zone_at o late g (side_in C.finish late C.writer true (get_d_in F 0 a h)))
          ∙ ap (λ (z : Zone). leb (low (zone_by C.finish late (get_or F a 0))) (low z)) (zone_at o late g (side_in C.finish late C.writer false (get_d_in B 0 j k)))

    module _ (span : Span) (x : Spans C.finish late F a span) (h : a < span.end) (k : span.end ≤ length F) where
      abbrev R : List ℕ
      R = part_of F a span.end

      -- what a chunk requires of its run
      pub next_cut : Cut C late R
      next_cut =
          record {
            some = rw (part_first F a span.end h k) (omega arith);
            among = λ y m. in_drop a F (in_take (span.end - a) (drop a F) m);
            apart = pairs_take (pairs_from (side_apart C.finish late C.writer true) a) (span.end - a);
            few = part_length F a span.end h k;
          }

      run_is : (H : List Op) → Of C H → runs H (ops H (drop a F)) ≡ run_of H R span.top ∷ runs H (ops H (drop span.end F))
      run_is H o =
          run_cut o late g a (omega arith) span x
          ∙ rw (part_first F a span.end h k) refl

      chunk_next : (H : List Op) (o : Of C H) → chunk_first C.finish late F B a j ≡ true →
          remaining F B a j H ≡ chunk (run_of H R span.top) ∷ remaining F B span.end j H
      unfolding merge weave
      chunk_next H o e = ap (λ (rs : List Run). merge H rs (keep (dangles H) (ops H (drop j B)))) (run_is H o) ∙ go (chunk_first C.finish late F B a j) (first? C.finish late F B a j) e
        where
          q : Run
          q = run_of H R span.top

          rs : List Run
          rs = runs H (ops H (drop span.end F))

          head_is : q.first ≡ op H (get_or F a 0)
          head_is = ap (λ (l : List ℕ). op H (get_or l 0 0)) (part_first F a span.end h k)

          go : (b : Bool) → First? C.finish late F B a j b → b ≡ true → merge H (q ∷ rs) (keep (dangles H) (ops H (drop j B))) ≡ chunk q ∷ merge H rs (keep (dangles H) (ops H (drop j B)))
          go false m c = absurd (both c refl)
          go true (no_cluster l m) c = rw (clusters_end H o m) refl
          go true (chunk_low l m i) c = rw (clusters_one H o m, first_is H o l m q head_is, i) refl

      pub next_chunk : j ≤ length B → chunk_first C.finish late F B a j ≡ true → (part : List ℕ) (at : ℕ) → Chunked C R span.top part (Some at) → (i : ℕ) →
          Nexts C F B a j part (Some (record { at = at; cursor = record { forward = span.end; backward = j; inner = i } }))
      next_chunk l e part at (an_order c) i =
          goes (record { item = λ H. chunk (run_of H R span.top); forth = k; back = l; on = omega arith; holds = c; next = λ H o. chunk_next H o e })

      pub no_chunk_next : chunk_first C.finish late F B a j ≡ true → (part : List ℕ) → Chunked C R span.top part None → Nexts C F B a j part None
      no_chunk_next e part (no_order c) = ends (λ H o. (chunk (run_of H R span.top), remaining F B span.end j H, chunk_next H o e, c H o))

      -- the first of the run is the one at a
      pub run_first : get_or R 0 0 ≡ get_or F a 0
      run_first = rw (part_first F a span.end h k) refl

      -- the backward zones that were looked at are too low for the next run
      pub run_behind : (i : ℕ) → ((limit : ℕ) → low (zone_by C.finish late (get_or F a 0)) ≤ limit → span.top ≤ limit → Behind C.finish late B i limit) →
          span.end < length F → Behind C.finish late B i (low (zone_by C.finish late (get_or F span.end 0)))
      run_behind i q l =
          let e = span_stop C.finish late F a span x l in
          q _ (omega (arith, e, span_over C.finish late F a span x)) e

    -- a cluster comes next
    cluster_next : (H : List Op) (o : Of C H) → j < length B → chunk_first C.finish late F B a j ≡ false →
        remaining F B a j H ≡ dangling (op H (get_or B j 0)) ∷ remaining F B a (j + 1) H
    unfolding merge weave runs
    cluster_next H o h e = rw (clusters_one H o h) (go (chunk_first C.finish late F B a j) (first? C.finish late F B a j) e)
      where
        b : Op
        b = op H (get_or B j 0)

        bs : List Op
        bs = keep (dangles H) (ops H (drop (j + 1) B))

        go : (c : Bool) → First? C.finish late F B a j c → c ≡ false → merge H (runs H (ops H (drop a F))) (b ∷ bs) ≡ dangling b ∷ merge H (runs H (ops H (drop a F))) bs
        go true m c = absurd (both refl c)
        go false (no_chunk l) c = rw (drop_of_length-le F l) refl
        go false (cluster_low l m i) c =
            let (q, rs, r, f) = grow_first H (new_run H (op H (get_or F a 0))) (ops H (drop (a + 1) F)) in
            let t : drop a F ≡ get_or F a 0 ∷ drop (a + 1) F = rw (add-one a) (drop-cons F a 0 l) in
            let d : runs H (ops H (drop a F)) ≡ q ∷ rs = ap (λ (k : List ℕ). runs H (ops H k)) t ∙ r in
            rw (d, first_is H o l m q f, i) refl

    -- where no chunk comes next there is a cluster
    pub cluster_there : (length F ≤ a → j < length B) → chunk_first C.finish late F B a j ≡ false → j < length B
    cluster_there h e = go (chunk_first C.finish late F B a j) (first? C.finish late F B a j) e
      where
        go : (c : Bool) → First? C.finish late F B a j c → c ≡ false → j < length B
        go true m c = absurd (both refl c)
        go false (no_chunk l) c = h l
        go false (cluster_low l m i) c = m

    -- where a chunk comes next there is one
    pub chunk_there : chunk_first C.finish late F B a j ≡ true → a < length F
    chunk_there e = go (chunk_first C.finish late F B a j) (first? C.finish late F B a j) e
      where
        go : (c : Bool) → First? C.finish late F B a j c → c ≡ true → a < length F
        go true (no_cluster l m) c = l
        go true (chunk_low l m i) c = l
        go false m c = absurd (both c refl)

    pub next_cluster : a ≤ length F → j < length B → chunk_first C.finish late F B a j ≡ false → (part : List ℕ) (at : ℕ) →
        (drop at part ≡ cluster_at C.writer (get_or B j 0)) × (at ≤ length part) → (i : ℕ) →
        Nexts C F B a j part (Some (record { at = at; cursor = record { forward = a; backward = j + 1; inner = i } }))
    unfolding made
    next_cluster h k e part at x i =
        goes
        (record {
          item = λ H. dangling (op H (get_or B j 0));
          forth = h;
          back = omega arith;
          on = omega arith;
          holds =
              record {
                high = x.1;
                whole = λ H o.
                    let w = side_write C p late false (get_d_in B 0 j k) in
                    let q : get_or B j 0 ∷ upto (read_of C.writer (get_or B j 0)) (size C) ≡ drop at part = rw (← p.shape.long) (sym x.0) in
                    ap order (cluster_at_lem o (get_or B j 0) w.0 w.1 ∙ ap (ops H) q);
              };
          next = λ H o. cluster_next H o k e;
        })
