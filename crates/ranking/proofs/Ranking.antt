-- The columns of doubled ranks: the place of each stamp in the merged sequence is its rank, the number of stamps that come before it.
-- Assumes nothing.
use Prim.Native.Nat.{ℕ, zero, suc, ◌+◌, ◌*◌, ◌≤◌, ◌<◌}
use mathlib.Core.Path.{◌≡◌, refl, sym, ap, ap₂, ◌∙◌}
use mathlib.Core.Logic.{◌≢◌, ◌⊎◌, inl, inr}
use mathlib.Core.Bool.{Bool, true, false}
use mathlib.Core.List.{List, [], ◌∷◌, map, Memᴰ as In}
use native.Mathlib.Omega.{arith}
use native.Mathlib.Nat.{eq-or-lt_of_le}
use native.Mathlib.Decide.{dec_lt}
use borrow.Author.Tests.{leb-true, le-leb}
use lib.ListN.{length, get_or, length-map, length-append}
use lib.Seq.{ext_get_or}
use Rattle.lists.specs.Lists.{put, keep, up_to}
use Rattle.lists.specs.Sorts.{sort}
use Rattle.lists.specs.Pairs.{Pairs}
use Rattle.lists.proofs.Tests.{told_true, true_told, false_told}
use Rattle.lists.proofs.Ranges.{in_below, below_in, at_each, from_at, from_length}
use Rattle.lists.proofs.Pairs.{pairs_map, pairs_both, image_pairs}
use Rattle.lists.proofs.Counts.{count_map, count_sort}
use Rattle.lists.proofs.Sorts.{in_sort, sort_in, sort_length, sort_apart}
use Rattle.lists.proofs.Merges.{Stable, key_order, sort_stable, sort_rises}
use Rattle.lists.proofs.Images.{keep_append, map_twice, get_d_map, in_at, get_d_in, pairs_at}
use Rattle.history.specs.declared.Op.{Op}
use Rattle.history.specs.Table.{largest_stamp, largest_count, op_at}
use Rattle.methods.specs.Ranks.{Event, starting, finishing, events, sooner, rank}
use Rattle.preparation.specs.Times.{time_of, begins_first, by_time}
use Rattle.preparation.proofs.Ranks.{Lower, Sooner, told_sooner, sooner_trans, never_sooner, latest_small}
use Rattle.preparation.proofs.Sequence.{Placed, placed_start, placed_finish, lower_sooner, equal_time, sooner_time}
use Rattle.ranking.specs.Ranked.{Fit, Stands, Standing, Stamps, RowsDiffer, finishes_first, finish_at, Ready, Front, Merged, Ranked, RanksOf}
use Rattle.ranking.proofs.ByFinish.{told_first, finishes_order}

-- where the first j of a list pass, and no others, j of them pass
front_count : (q : ℕ → Bool) (l : List ℕ) (j : ℕ) → j ≤ length l → ((k : ℕ) → k < j → q (get_or l k 0) ≡ true) →
    ((k : ℕ) → j ≤ k → k < length l → q (get_or l k 0) ≡ false) → length (keep q l) ≡ j
unfolding keep put
front_count q [] j few a b = omega arith
front_count q (x ∷ l) zero few a b = rw (b zero (omega arith) (omega arith)) (front_count q l zero (omega arith) (λ k m. absurd (omega arith)) (λ k m i. b (suc k) (omega arith) (omega arith)))
front_count q (x ∷ l) (suc j) few a b = rw (a zero (omega arith)) (ap suc (front_count q l j (omega arith) (λ k m. a (suc k) (omega arith)) (λ k m i. b (suc k) (omega arith) (omega arith))))

-- what comes before a stamp: a finish before a start where its time is below, a start before a finish where its time is not above
no_later : (d e : Event) → Placed d → Placed e → Sooner d e → time_of d ≤ time_of e
no_later d e u v s = go (sooner_time d e u v s)
  where
    go : (time_of d < time_of e) ⊎ ((time_of d ≡ time_of e) × (d.side ≤ e.side)) → time_of d ≤ time_of e
    go (inl l) = omega arith
    go (inr (c, l)) = omega arith

finish_start : (x y : Op) → Placed (finishing x) → Placed (starting y) → Sooner (finishing x) (starting y) → time_of (finishing x) < time_of (starting y)
finish_start x y u v s = go (sooner_time (finishing x) (starting y) u v s)
  where
    go : (time_of (finishing x) < time_of (starting y)) ⊎ ((time_of (finishing x) ≡ time_of (starting y)) × (1 ≤ 0)) → time_of (finishing x) < time_of (starting y)
    go (inl l) = l
    go (inr (c, l)) = absurd (omega arith)

finish_meets : (x y : Op) → Placed (starting x) → Placed (finishing y) → time_of (starting x) ≤ time_of (finishing y) → Sooner (starting x) (finishing y)
finish_meets x y u v l = go (dec_lt (time_of (starting x)) (time_of (finishing y)))
  where
    go : Dec (time_of (starting x) < time_of (finishing y)) → Sooner (starting x) (finishing y)
    go (yes k) = lower_sooner (starting x) (finishing y) u v k
    go (no k) = let (p, q) = equal_time (starting x) (finishing y) u v (omega arith) in inr (p, inr (q, inl (omega arith)))

-- a stamp that passed the screening is no larger than the largest
pub bounded : {t rows : List ℕ} → Fit t rows → {x : ℕ} → In x rows → ((op_at t x).start ≤ largest_stamp) × ((op_at t x).finish ≤ largest_stamp)
bounded {t} f {x} m = let s = f.spans x m in (omega (arith, s.0, s.1, latest_small (op_at t x)), omega (arith, s.1, latest_small (op_at t x)))

module _ (t rows : List ℕ) (h : List Op) (g : Stands t rows h) (fit : Fit t rows) where
  abbrev n : ℕ
  n = length rows

  -- the operation of the row at a position
  abbrev f : ℕ → Op
  f i = op_at t (get_or rows i 0)

  row_of : (i : ℕ) → (f i).row ≡ get_or rows i 0
  unfolding op_at
  row_of i = refl

  start_placed : (i : ℕ) → i < n → Placed (starting (f i))
  start_placed i l = placed_start (f i) (fit.spans (get_or rows i 0) (get_d_in rows 0 i l))

  finish_placed : (i : ℕ) → i < n → Placed (finishing (f i))
  finish_placed i l = placed_finish (f i) (fit.spans (get_or rows i 0) (get_d_in rows 0 i l))

  -- the operations by rising time are those at the positions
  stands : map f (up_to n) ≡ by_time h
  stands = sym (map_twice (op_at t) (λ i. get_or rows i 0) (up_to n)) ∙ ap (map (op_at t)) (at_each rows) ∙ sym g.sorted

  up : (k : ℕ) → k < n → get_or (up_to n) k 0 ≡ k
  up k l = let e : 0 + k ≡ k = omega arith in from_at 0 n k l ∙ e

  -- the starts in their sequence
  in_starts : Pairs (λ a b. Sooner (starting (f a)) (starting (f b))) (up_to n)
  unfolding by_time
  in_starts =
      pairs_map
      (image_pairs {R = Stable begins_first (key_order (λ x. time_of (starting x))) (λ x y. x.row < y.row)} f (up_to n)
      (rw stands (sort_stable begins_first (key_order (λ x. time_of (starting x))) (λ x y. x.row < y.row) g.rise)))
      (λ a b m k s.
      go a b (start_placed a (in_below n m)) (start_placed b (in_below n k)) (dec_lt (time_of (starting (f a))) (time_of (starting (f b))))
      (leb-true (time_of (starting (f a))) (time_of (starting (f b))) s.0) s.1)
    where
      go : (a b : ℕ) → Placed (starting (f a)) → Placed (starting (f b)) → Dec (time_of (starting (f a)) < time_of (starting (f b))) →
          time_of (starting (f a)) ≤ time_of (starting (f b)) → (begins_first (f b) (f a) ≡ true → (f a).row < (f b).row) → Sooner (starting (f a)) (starting (f b))
      go a b v w (yes l) k u = lower_sooner (starting (f a)) (starting (f b)) v w l
      go a b v w (no l) k u =
          let (p, q) = equal_time (starting (f a)) (starting (f b)) v w (omega arith) in
          inr (p, inr (q, inr (refl, u (le-leb (time_of (starting (f b))) (time_of (starting (f a))) (omega arith)))))

  start_sooner : (a b : ℕ) → a < b → b < n → Sooner (starting (f a)) (starting (f b))
  start_sooner a b l m =
      rw (up a (omega arith), up b m) at (pairs_at {R = λ a b. Sooner (starting (f a)) (starting (f b))} 0 in_starts a b l (omega (arith, from_length 0 n)))

  apart : Pairs (λ a b. (f a).row ≢ (f b).row) (up_to n)
  unfolding by_time
  apart =
      image_pairs {R = λ x y. x.row ≢ y.row} f (up_to n)
      (rw stands (sort_apart begins_first (λ x y. x.row ≢ y.row) (λ x y d e. d (sym e)) (pairs_map g.rise (λ x y m k l e. omega arith))))

  differ : RowsDiffer rows
  differ a b l m e =
      rw (up a (omega arith), up b m) at (pairs_at {R = λ a b. (f a).row ≢ (f b).row} 0 apart a b l (omega (arith, from_length 0 n)))
      (row_of a ∙ e ∙ sym (row_of b))

  module _ (starts finishes : List ℕ) (s : Stamps t rows starts finishes) where
    -- the positions by finish, then by row
    abbrev le : ℕ → ℕ → Bool
    le = finishes_first rows finishes

    abbrev pub L : List ℕ
    L = sort le (up_to n)

    pub long : length L ≡ n
    long = sort_length le (up_to n) ∙ from_length 0 n

    start_is : (i : ℕ) → i < n → get_or starts i 0 ≡ time_of (starting (f i))
    start_is i l = ap (λ z. get_or z i 0) s.begin ∙ get_d_map (λ x. time_of (starting (op_at t x))) rows i 0 0 l

    finish_is : (i : ℕ) → i < n → get_or finishes i 0 ≡ time_of (finishing (f i))
    finish_is i l = ap (λ z. get_or z i 0) s.end ∙ get_d_map (λ x. time_of (finishing (op_at t x))) rows i 0 0 l

    within : (i : ℕ) → In i L → i < n
    within i m = in_below n (in_sort le (up_to n) m)

    place : (k : ℕ) → k < n → get_or L k 0 < n
    place k l = within (get_or L k 0) (get_d_in L 0 k (omega (arith, long)))

    finish_at_lem : (k : ℕ) → k < n → finish_at finishes L k ≡ time_of (finishing (f (get_or L k 0)))
    finish_at_lem k l = finish_is (get_or L k 0) (place k l)

    -- the finishes in their sequence
    in_finishes : Pairs (λ a b. Sooner (finishing (f a)) (finishing (f b))) L
    in_finishes =
        pairs_map
        (pairs_both (sort_rises le (finishes_order rows finishes) (up_to n)) (sort_apart le (λ a b. (f a).row ≢ (f b).row) (λ x y d e. d (sym e)) apart))
        (λ a b m k d. go a b (within a m) (within b k) (finish_is a (within a m)) (finish_is b (within b k)) d.1 (told_true (told_first rows finishes a b) d.0))
      where
        go : (a b : ℕ) → a < n → b < n → get_or finishes a 0 ≡ time_of (finishing (f a)) → get_or finishes b 0 ≡ time_of (finishing (f b)) → (f a).row ≢ (f b).row
            → Lower (get_or finishes a 0) (get_or finishes b 0) (get_or rows a 0 ≤ get_or rows b 0) → Sooner (finishing (f a)) (finishing (f b))
        go a b i j p q d (inl l) = lower_sooner (finishing (f a)) (finishing (f b)) (finish_placed a i) (finish_placed b j) (omega arith)
        go a b i j p q d (inr (e, l)) =
            let (c, s) = equal_time (finishing (f a)) (finishing (f b)) (finish_placed a i) (finish_placed b j) (omega arith) in
            inr (c, inr (s, inr (refl, omega (arith, row_of a, row_of b, d))))

    finish_sooner : (a b : ℕ) → a < b → b < n → Sooner (finishing (f (get_or L a 0))) (finishing (f (get_or L b 0)))
    finish_sooner a b l m = pairs_at {R = λ a b. Sooner (finishing (f a)) (finishing (f b))} 0 in_finishes a b l (omega (arith, long))

    -- the stamps that pass, of the starts and of the finishes
    counts : (p : Event → Bool) → length (keep p (events h)) ≡ length (keep (λ i. p (starting (f i))) (up_to n)) + length (keep (λ i. p (finishing (f i))) L)
    unfolding by_time
    counts p = ap length (keep_append p (map starting h) (map finishing h)) ∙ length-append (keep p (map starting h)) (keep p (map finishing h)) ∙ ap₂ ◌+◌ one two
      where
        by : (e : Op → Event) → length (keep p (map e h)) ≡ length (keep (λ i. p (e (f i))) (up_to n))
        by e =
            count_map e p h ∙ sym (count_sort begins_first (λ x. p (e x)) h) ∙ ap (λ l. length (keep (λ x. p (e x)) l)) (sym stands)
            ∙ count_map f (λ x. p (e x)) (up_to n)

        one : length (keep p (map starting h)) ≡ length (keep (λ i. p (starting (f i))) (up_to n))
        one = by starting

        two : length (keep p (map finishing h)) ≡ length (keep (λ i. p (finishing (f i))) L)
        two = by finishing ∙ sym (count_sort le (λ i. p (finishing (f i))) (up_to n))

    -- a stamp does not come before itself, nor before one that comes before it
    not_before : (a b : ℕ) (x : ℕ → Event) → ((i j : ℕ) → i < j → j < n → Sooner (x i) (x j)) → a ≤ b → b < n → Sooner (x b) (x a) → ⊥
    not_before a b x u l m d = go (eq-or-lt_of_le l)
      where
        go : (a ≡ b) ⊎ (a < b) → ⊥
        go (inl e) = never_sooner (x b) (rw e at d)
        go (inr k) = never_sooner (x a) (sooner_trans (x a) (x b) (x a) (u a b k m) d)

    -- THE RANK OF A START: the starts before it, and the finishes below it
    start_rank : (i j : ℕ) → i < n → Front (λ k. finish_at finishes L k < get_or starts i 0) n j → rank h (starting (f i)) ≡ i + j
    unfolding rank
    start_rank i j l c =
        counts (λ d. sooner d (starting (f i)))
        ∙ ap₂ ◌+◌
        (front_count (λ a. sooner (starting (f a)) (starting (f i))) (up_to n) i (omega (arith, from_length 0 n))
        (λ k m. rw (up k (omega arith)) (true_told (told_sooner (starting (f k)) (starting (f i))) (start_sooner k i m l)))
        (λ k m b.
        let e : k < n = omega (arith, from_length 0 n) in
        rw (up k e) (false_told (told_sooner (starting (f k)) (starting (f i))) (λ d. not_before i k (λ x. starting (f x)) start_sooner m e d))))
        (front_count (λ a. sooner (finishing (f a)) (starting (f i))) L j (omega (arith, long, c.few))
        (λ k m.
        let e : k < n = omega (arith, c.few) in
        true_told (told_sooner (finishing (f (get_or L k 0))) (starting (f i))) (lower_sooner (finishing (f (get_or L k 0))) (starting (f i)) (finish_placed (get_or L k 0) (place k e)) (start_placed i l) (omega (arith, c.before k m, finish_at_lem k e, start_is i l))))
        (λ k m b.
        let e : k < n = omega (arith, long) in
        false_told (told_sooner (finishing (f (get_or L k 0))) (starting (f i)))
        (λ d. c.behind k m e (omega (arith, finish_start (f (get_or L k 0)) (f i) (finish_placed (get_or L k 0) (place k e)) (start_placed i l) d, finish_at_lem k e, start_is i l)))))

    -- THE RANK OF A FINISH: the finishes before it, and the starts that are not above it
    finish_rank : (b i : ℕ) → b < n → Front (λ k. get_or starts k 0 ≤ finish_at finishes L b) n i → rank h (finishing (f (get_or L b 0))) ≡ i + b
    unfolding rank
    finish_rank b i l c =
        counts (λ d. sooner d (finishing y))
        ∙ ap₂ ◌+◌
        (front_count (λ a. sooner (starting (f a)) (finishing y)) (up_to n) i (omega (arith, from_length 0 n, c.few))
        (λ k m.
        let e : k < n = omega (arith, c.few) in
        rw (up k e) (true_told (told_sooner (starting (f k)) (finishing y)) (finish_meets (f k) y (start_placed k e) (finish_placed (get_or L b 0) (place b l)) (omega (arith, c.before k m, finish_at_lem b l, start_is k e)))))
        (λ k m u.
        let e : k < n = omega (arith, from_length 0 n) in
        rw (up k e) (false_told (told_sooner (starting (f k)) (finishing y)) (λ d. c.behind k m e (omega (arith, no_later (starting (f k)) (finishing y) (start_placed k e) (finish_placed (get_or L b 0) (place b l)) d, finish_at_lem b l, start_is k e))))))
        (front_count (λ a. sooner (finishing (f a)) (finishing y)) L b (omega (arith, long))
        (λ k m. true_told (told_sooner (finishing (f (get_or L k 0))) (finishing y)) (finish_sooner k b m l))
        (λ k m u.
        false_told (told_sooner (finishing (f (get_or L k 0))) (finishing y))
        (λ d. not_before b k (λ x. finishing (f (get_or L x 0))) finish_sooner m (omega (arith, long)) d)))
      where
        y : Op
        y = f (get_or L b 0)

    -- where a position stands by finish
    stands_at : (i : ℕ) → i < n → (b : ℕ) × (b < length L) × (get_or L b 0 ≡ i)
    stands_at i l = in_at 0 (sort_in le (up_to n) (below_in n l))

    -- WHAT THE MERGING TAKES
    pub ready : Ready starts finishes L
    ready =
        record {
          size_starts = ap length s.begin ∙ length-map rows _ ∙ sym long;
          size_finishes = ap length s.end ∙ length-map rows _ ∙ sym long;
          inside = λ k l. omega (arith, long, place k (omega (arith, long)));
          once = λ j k l m e. never_sooner (finishing (f (get_or L k 0))) (rw e at (finish_sooner j k l (omega (arith, long))));
          rising = λ x y l m. let e : y < n = omega (arith, long) in go_start x y l e (eq-or-lt_of_le l);
          ordered = λ x y l m. let e : y < n = omega (arith, long) in go_finish x y l e (eq-or-lt_of_le l);
          meets = λ x l. let e : x < n = omega (arith, long) in meet x e (stands_at x e);
        }
      where
        go_start : (x y : ℕ) → x ≤ y → y < n → (x ≡ y) ⊎ (x < y) → get_or starts x 0 ≤ get_or starts y 0
        go_start x y l m (inl e) = rw e (omega arith)
        go_start x y l m (inr k) = omega (arith, start_is x (omega arith), start_is y m, no_later (starting (f x)) (starting (f y)) (start_placed x (omega arith)) (start_placed y m) (start_sooner x y k m))

        go_finish : (x y : ℕ) → x ≤ y → y < n → (x ≡ y) ⊎ (x < y) → finish_at finishes L x ≤ finish_at finishes L y
        go_finish x y l m (inl e) = rw e (omega arith)
        go_finish x y l m (inr k) = omega (arith, finish_at_lem x (omega arith), finish_at_lem y m, no_later (finishing (f (get_or L x 0))) (finishing (f (get_or L y 0))) (finish_placed (get_or L x 0) (place x (omega arith))) (finish_placed (get_or L y 0) (place y m)) (finish_sooner x y k m))

        meet : (x : ℕ) → x < n → (b : ℕ) × (b < length L) × (get_or L b 0 ≡ x) → (b : ℕ) × (b < length L) × (get_or starts x 0 ≤ finish_at finishes L b)
        meet x l (b, m, e) = (b, m, rw e (omega (arith, start_is x l, finish_is x l, fit.spans (get_or rows x 0) (get_d_in rows 0 x l))))

    -- THE COLUMNS ARE THE DOUBLED RANKS
    pub ranked_columns : (start finish : List ℕ) → Merged starts finishes L start finish → Ranked t rows h start finish
    ranked_columns start finish m =
        record {
          starts = ext_get_or 0 start (map (λ x. 2 * rank h (starting (op_at t x))) rows) (m.size_start ∙ long ∙ sym (length-map rows _))
              (λ i l. let b : i < n = omega (arith, m.size_start, long) in begin i b (m.begin i (omega (arith, long))) ∙ sym (get_d_map (λ x. 2 * rank h (starting (op_at t x))) rows i 0 0 b));
          finishes = ext_get_or 0 finish (map (λ x. 2 * rank h (finishing (op_at t x))) rows) (m.size_finish ∙ long ∙ sym (length-map rows _))
              (λ i l. let b : i < n = omega (arith, m.size_finish, long) in end i (stands_at i b) ∙ sym (get_d_map (λ x. 2 * rank h (finishing (op_at t x))) rows i 0 0 b));
        }
      where
        begin : (i : ℕ) → i < n → (j : ℕ) × (get_or start i 0 ≡ 2 * (i + j)) × Front (λ k. finish_at finishes L k < get_or starts i 0) (length L) j → get_or start i 0 ≡ 2 * rank h (starting (f i))
        begin i l (j, e, c) = e ∙ ap (λ k. 2 * k) (sym (start_rank i j l (rw long at c)))

        end : (i : ℕ) → (b : ℕ) × (b < length L) × (get_or L b 0 ≡ i) → get_or finish i 0 ≡ 2 * rank h (finishing (f i))
        end i (b, l, e) =
            let (j, d, c) = m.end b l in
            rw (← e) (d ∙ ap (λ k. 2 * k) (sym (finish_rank b j (omega (arith, long)) (rw long at c))))

-- THE CALLS, one after the other
pub rows_differ : (t rows : List ℕ) → Standing t rows → Fit t rows → RowsDiffer rows
rows_differ t rows (h, g) f = differ t rows h g f

module _ (t rows starts finishes list₀ list : List ℕ) (s : Stamps t rows starts finishes) (size : length list₀ ≡ length rows)
    (e : list ≡ sort (finishes_first rows finishes) (up_to (length list₀))) where
  list_is : list ≡ sort (finishes_first rows finishes) (up_to (length rows))
  list_is = e ∙ ap (λ k. sort (finishes_first rows finishes) (up_to k)) size

  pub merge_takes : Standing t rows → Fit t rows → length rows ≤ largest_count → Ready starts finishes list × (length list ≤ largest_count)
  merge_takes (h, g) f l =
      let d : length list ≡ length rows = ap length list_is ∙ long t rows h g f starts finishes s in
      (rw list_is (ready t rows h g f starts finishes s), omega arith)

  pub ranks_end : Fit t rows → (start finish : List ℕ) → Merged starts finishes list start finish → RanksOf t rows start finish
  ranks_end f start finish m h g = ranked_columns t rows h g f starts finishes s start finish (rw list_is at m)
