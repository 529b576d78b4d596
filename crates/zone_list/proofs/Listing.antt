-- The numbers by the columns are the defined zone list.
-- Assumes nothing.
use Prim.Native.Nat.{ℕ, ◌+◌, ◌-◌, ◌*◌, ◌≤◌, ◌<◌}
use mathlib.Core.Path.{◌≡◌, refl, ap, sym, ◌∙◌}
use mathlib.Core.Bool.{Bool, true, false}
use mathlib.Core.List.Memᴰ.{head as here}
use mathlib.Core.List.Memᴰ.{tail as there}
use mathlib.Core.List.{List, [], ◌∷◌, ◌++◌, map, flat_map, append_assoc, Memᴰ as In}
use native.Mathlib.Omega.{arith}
use lib.Dec.{eqb}
use lib.ListN.{length, get_or, take, length-map}
use Rattle.std.proofs.lemmas.List.{drop-drop}
use lib.Seq.{sets, sets-eq, length-take-le}
use borrow.Rule.Slice.PartMut.{put_mid}
use Rattle.lists.specs.Lists.{keep}
use Rattle.lists.specs.Sorts.{sort}
use Rattle.lists.proofs.Entries.{flat_long}
use Rattle.lists.proofs.Images.{get_d_map, get_d_in}
use Rattle.history.specs.declared.Op.{Op}
use Rattle.history.specs.Table.{largest_stamp, op_at, history}
use Rattle.methods.specs.declared.Zone.{Zone}
use Rattle.methods.specs.Extremes.{least, greatest}
use Rattle.methods.specs.Prepared.{same_value, prepared}
use Rattle.preparation.specs.Times.{begins_first, by_time}
use Rattle.methods.specs.Place.{writes}
use Rattle.methods.specs.Zones.{forward, zone_of, low_first}
use Rattle.methods.specs.Mark.{written}
use Rattle.preparation.proofs.Ranks.{latest_small}
use Rattle.positions.specs.Places.{upto}
use Rattle.positions.specs.Columns.{Cols, size, wr, mine, nothing, op, Of, Sound}
use Rattle.positions.proofs.OfHistory.{size_is, same_is, of_sound}
use Rattle.writers.specs.Writers.{row_op}
use Rattle.columns.specs.Rows.{Listed}
use Rattle.columns.specs.Made.{Made}
use Rattle.columns.proofs.Listed.{listed_ops, in_history}
use Rattle.columns.proofs.Made.{prepared_rows, value_at}
use Rattle.columns.proofs.Lent.{rows_long as lent_long}
use Rattle.zones.specs.Zones.{zone_by, Zoned, writes_at, by_low}
use Rattle.zones.proofs.ByLow.{write_of, zone_at, by_low_lem, by_low_in, by_low_write}
use Rattle.zone_list.specs.ZoneList.{stamps_of, directed, numbers_of, zone_list}
use Rattle.zone_list.specs.Stamps.{stamps_at, Writes, numbers_at, OfRows}
use Rattle.zone_list.proofs.Clusters.{least_sort, greatest_sort, least_map, greatest_map, least_own, greatest_own, keep_at}

-- four numbers stored at a place
pub four_stored : (list : List ℕ) (at : ℕ) (new four : List ℕ) → at + 4 ≤ length list → length four ≡ 4 → new ≡ four → put_mid at (at + 4 - at) list new ≡ sets list at four
four_stored list at new four h l e =
    let k : at + 4 - at ≡ length four = omega (arith, l) in
    let b : at + length four ≤ length list = omega (arith, l) in
    rw (k, e, drop-drop) (sym (sets-eq four list at b ∙ append_assoc (take at list) four _))

-- four numbers, whichever way
directed_long : (n : ℕ) (b : Bool) (s : Zone) → length (n ∷ directed b s) ≡ 4
directed_long n true s = refl
directed_long n false s = refl

pub numbers_long : (h H : List Op) (w : Op) → length (numbers_of h H w) ≡ 4
numbers_long h H w = directed_long w.row (forward (zone_of H w)) (stamps_of h w)

pub four_at : (t rows finish writer late : List ℕ) (w : ℕ) → length (numbers_at t rows finish writer late w) ≡ 4
four_at t rows finish writer late w = directed_long (get_or rows w 0) (forward (zone_by finish late w)) (stamps_at t rows writer w)

-- what is joined of each element is joined of its image
flat_map_lem : (f : ℕ → List ℕ) (k : Op → List ℕ) (q : ℕ → Op) (l : List ℕ) → ((x : ℕ) → In x l → f x ≡ k (q x)) → flat_map f l ≡ flat_map k (map q l)
unfolding flat_map
flat_map_lem f k q [] h = refl
flat_map_lem f k q (x ∷ l) h =
    ap (λ (z : List ℕ). z ++ flat_map f l) (h x (here refl)) ∙ ap (λ (z : List ℕ). k (q x) ++ z) (flat_map_lem f k q l (λ y m. h y (there m)))

module _ {t : List ℕ} {register : ℕ} {rows : List ℕ} (g : Listed t register rows) {C : Cols} (m : Made t rows C) where
  -- the register's operations, and the prepared ones
  abbrev h : List Op
  h = history t register

  abbrev H : List Op
  H = prepared h

  pub of : Of C H
  of = m.columns register g

  rows_long : length rows ≡ length H
  rows_long = ap length (prepared_rows g) ∙ length-map H (λ x. x.row)

  pub made_size : size C ≡ length rows
  made_size = omega (arith, size_is of, rows_long)

  -- a finish is no more than the largest stamp
  stamp_small : (j : ℕ) → j < length rows → (row_op t rows j).finish ≤ largest_stamp
  stamp_small j l =
      omega (arith, (g.screened.spans (row_op t rows j) (in_history g (get_d_in rows 0 j l))).1, latest_small (row_op t rows j))

  pub made_sound : Sound C
  made_sound = of_sound of m.chains

  -- the column of writers has a place for each row
  writers_long : length C.writer ≡ length rows
  writers_long = of.long ∙ sym rows_long

  module _ (w : ℕ) (q : In w (writes_at C.writer)) where
    abbrev p : ℕ → List ℕ
    p n = upto (mine C.writer w) n

    below_rows : w < length rows
    below_rows = omega (arith, made_size, (write_of of q).0)

    -- the rows of the cluster, by position
    same : (j : ℕ) → j < length rows → same_value (op H w) (op_at t (get_or rows j 0)) ≡ mine C.writer w j
    same j l =
        ap (λ (v : ℕ). eqb v (op H w).value) (sym (value_at g j l))
        ∙ same_is of w j (omega (arith, rows_long, below_rows)) (omega (arith, rows_long))
        ∙ ap (eqb (wr C j)) (write_of of q).1

    cluster_rows : keep (same_value (op H w)) (by_time h) ≡ map (row_op t rows) (p (length rows))
    cluster_rows = ap (keep (same_value (op H w))) (listed_ops g) ∙ keep_at (op_at t) rows (same_value (op H w)) (mine C.writer w) same

    -- its smallest finish and its largest start
    stamps_at_lem : stamps_of h (op H w) ≡ stamps_at t rows C.writer w
    unfolding stamps_of by_time
    stamps_at_lem =
        let k = write_of of q in
        let a : least (λ o. o.finish) largest_stamp (keep (same_value (op H w)) h) ≡ (stamps_at t rows C.writer w).finish =
        sym (least_sort (λ o. o.finish) largest_stamp (same_value (op H w)) begins_first h)
        ∙ ap (least (λ o. o.finish) largest_stamp) cluster_rows
        ∙ least_map (λ o. o.finish) largest_stamp (row_op t rows) (p (length rows))
        ∙ ap (λ (n : ℕ). least (λ j. (row_op t rows j).finish) largest_stamp (p n)) (sym writers_long)
        ∙ least_own C.writer w k.1 (λ j. (row_op t rows j).finish) largest_stamp (omega (arith, below_rows, writers_long)) (stamp_small w below_rows) in
        let b : greatest (λ o. o.start) 0 (keep (same_value (op H w)) h) ≡ (stamps_at t rows C.writer w).start =
        sym (greatest_sort (λ o. o.start) 0 (same_value (op H w)) begins_first h)
        ∙ ap (greatest (λ o. o.start) 0) cluster_rows
        ∙ greatest_map (λ o. o.start) 0 (row_op t rows) (p (length rows))
        ∙ ap (λ (n : ℕ). greatest (λ j. (row_op t rows j).start) 0 (p n)) (sym writers_long)
        ∙ greatest_own C.writer w k.1 (λ j. (row_op t rows j).start) (omega (arith, below_rows, writers_long)) in
        rw (a, b) refl

    row_at : get_or rows w 0 ≡ (op H w).row
    row_at = ap (λ (l : List ℕ). get_or l w 0) (prepared_rows g) ∙ get_d_map (λ x. x.row) H w 0 nothing (omega (arith, rows_long, below_rows))

    -- the four numbers
    numbers_at_lem : (late : List ℕ) → Zoned C late → numbers_at t rows C.finish C.writer late w ≡ numbers_of h H (op H w)
    numbers_at_lem late z =
        ap (λ (n : ℕ). n ∷ directed (forward (zone_by C.finish late w)) (stamps_at t rows C.writer w)) row_at
        ∙ ap (λ (y : Zone). (op H w).row ∷ directed (forward y) (stamps_at t rows C.writer w)) (sym (zone_at of late z q))
        ∙ ap (λ (y : Zone). (op H w).row ∷ directed (forward (zone_of H (op H w))) y) (sym stamps_at_lem)

  module _ (late : List ℕ) (z : Zoned C late) where
    -- as many numbers as four a listed write
    abbrev L : List ℕ
    L = by_low C.finish late C.writer

    list_length : length (zone_list h) ≡ length L * 4
    unfolding zone_list
    list_length =
        flat_long (numbers_of h H) 4 (numbers_long h H) (sort (low_first H) (writes H))
        ∙ ap (λ (l : List Op). length l * 4) (sym (by_low_lem of late z))
        ∙ ap (λ (n : ℕ). n * 4) (length-map L (op H))

    -- THE NUMBERS of the listed writes are the zone list
    list_is : flat_map (numbers_at t rows C.finish C.writer late) L ≡ zone_list h
    unfolding zone_list
    list_is =
        flat_map_lem (numbers_at t rows C.finish C.writer late) (numbers_of h H) (op H) L (λ w k. numbers_at_lem w (by_low_in C.finish late C.writer k) late z)
        ∙ ap (flat_map (numbers_of h H)) (by_low_lem of late z)

    module _ (n : ℕ) (places : List ℕ) (a : n ≤ length C.writer) (room : length places ≡ length rows) (b : take n places ≡ L) where
      front : n ≤ length places
      front = omega (arith, a, writers_long, room)

      places_long : length (take n places) ≡ n
      places_long = length-take-le n places front

      -- what is taken for their numbers
      pub put_takes : Writes C.writer (take n places)
      put_takes i l = go (rw b at l)
        where
          go : i < length L → (get_or (take n places) i 0 < length C.writer) × (get_or C.writer (get_or (take n places) i 0) 0 ≡ get_or (take n places) i 0)
          go k = rw b (by_low_write C.finish late C.writer (get_d_in L 0 i k))

      counted : length (zone_list h) ≡ n * 4
      counted = list_length ∙ ap (λ (k : ℕ). k * 4) (sym (ap length b) ∙ places_long)

-- THE FILLING, of whatever register has the rows
module _ {t rows : List ℕ} {C : Cols} (m : Made t rows C) (g : (register : ℕ) × Listed t register rows) (late : List ℕ) (z : Zoned C late) (n : ℕ) (places : List ℕ)
    (a : n ≤ length C.writer) (room : length places ≡ length rows) (b : take n places ≡ by_low C.finish late C.writer) where
  fill_few : n ≤ length rows
  fill_few = omega (arith, a, writers_long g.1 m)

  -- where the list is too short
  pub fill_short : (old : List ℕ) → length old < n * 4 → OfRows t rows n old old
  fill_short old l r k =
      record {
        few = omega (arith, fill_few, lent_long k);
        count = counted k m late z n places a room b;
        short = λ s. refl;
        full = λ f. absurd (omega arith);
      }

  -- and where it is not
  pub fill_full : (old list : List ℕ) → n * 4 ≤ length old → list ≡ written (flat_map (numbers_at t rows C.finish C.writer late) (take n places)) old →
      OfRows t rows n old list
  fill_full old list l q r k =
      record {
        few = omega (arith, fill_few, lent_long k);
        count = counted k m late z n places a room b;
        short = λ s. absurd (omega arith);
        full = λ f. q ∙ ap (λ (x : List ℕ). written x old) (ap (flat_map (numbers_at t rows C.finish C.writer late)) b ∙ list_is k m late z);
      }
