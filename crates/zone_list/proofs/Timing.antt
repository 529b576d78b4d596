-- In a screened register's columns recorded starts rise by position, and a write whose finish is even was not shortened: none of its reads
-- finishes below it (document 01, "Doubled stamps").
-- Assumes nothing.
use Prim.Native.Nat.{ℕ, ◌%◌, ◌≤◌, ◌<◌}
use mathlib.Core.Path.{◌≡◌, ap, sym, ◌∙◌}
use mathlib.Core.Logic.{◌⊎◌, inl, inr, ◌≢◌}
use mathlib.Core.List.{List, map, Memᴰ as In}
use native.Mathlib.Decide.{dec_lt}
use native.Mathlib.Nat.{eq-or-lt_of_le}
use native.Mathlib.Omega.{arith}
use lib.ListN.{length, get_or, length-map}
use Rattle.lists.specs.Pairs.{Pairs}
use Rattle.lists.proofs.Images.{get_d_map, get_d_in, pairs_at}
use Rattle.lists.proofs.Pairs.{pairs_map}
use Rattle.lists.proofs.Sorts.{by_key}
use Rattle.history.specs.declared.Op.{Op}
use Rattle.history.specs.Table.{op_at, history}
use Rattle.methods.specs.Ranks.{Event, starting, finishing, by_rank, ranked}
use Rattle.methods.specs.Prepared.{by_start, prepared}
use Rattle.preparation.specs.Times.{time_of, by_time}
use Rattle.preparation.proofs.Ranks.{Sooner, finish_in, rank_rises}
use Rattle.preparation.proofs.Sequence.{Placed, placed_start, placed_finish}
use Rattle.preparation.proofs.Rows.{history_rows}
use Rattle.preparation.proofs.Timed.{timed}
use Rattle.preparation.proofs.Finish.{New, whole, cut, new, new_le}
use Rattle.clusters.proofs.Clusters.{first_finish_lem, ends_from}
use Rattle.positions.specs.Columns.{Cols, nothing, op}
use Rattle.positions.proofs.OfHistory.{size_is}
use Rattle.writers.specs.Writers.{row_op}
use Rattle.columns.specs.Rows.{Listed}
use Rattle.columns.specs.Made.{Made}
use Rattle.columns.proofs.Listed.{listed_ops, in_history}
use Rattle.columns.proofs.Made.{finish_at_lem}
use Rattle.zones.proofs.Zone.{write_at}
use Rattle.zone_list.specs.Stamps.{Timely}
use Rattle.zone_list.proofs.Comparing.{ranked_in}
use Rattle.zone_list.proofs.Listing.{of, made_size, made_sound}

module _ {t : List ℕ} {register : ℕ} {rows : List ℕ} (g : Listed t register rows) {C : Cols} (m : Made t rows C) where
  abbrev h : List Op
  h = history t register

  abbrev H : List Op
  H = prepared h

  abbrev R : List Op
  R = by_start (ranked h)

  by_time_lem : Pairs (λ x y. (time_of (starting x) ≤ time_of (starting y)) × (x.row ≢ y.row)) (by_time h)
  unfolding by_time
  by_time_lem = by_key (λ o. time_of (starting o)) (λ x y d e. d (sym e)) (pairs_map (history_rows t register) (λ x y i j l e. omega (arith, e)))

  row_in : (j : ℕ) → j < length rows → In (row_op t rows j) h
  row_in j l = in_history g (get_d_in rows 0 j l)

  -- a start of no later time is no larger
  no_larger : (x y : Op) → In x h → In y h → time_of (starting x) ≤ time_of (starting y) → x.start ≤ y.start
  no_larger x y i j l = go (placed_start x (g.screened.spans x i)) (placed_start y (g.screened.spans y j))
    where
      go : Placed (starting x) → Placed (starting y) → x.start ≤ y.start
      go (inl (a, b)) q = omega arith
      go (inr a) (inl (b, c)) = absurd (omega arith)
      go (inr a) (inr b) = omega arith

  starts_rise : (a b : ℕ) → a ≤ b → b < length rows → (row_op t rows a).start ≤ (row_op t rows b).start
  starts_rise a b l k = go (eq-or-lt_of_le l)
    where
      at : (j : ℕ) → j < length rows → time_of (starting (get_or (map (op_at t) rows) j nothing)) ≡ time_of (starting (row_op t rows j))
      at j i = ap (λ (o : Op). time_of (starting o)) (get_d_map (op_at t) rows j nothing 0 i)

      go : (a ≡ b) ⊎ (a < b) → (row_op t rows a).start ≤ (row_op t rows b).start
      go (inl e) = rw e (omega arith)
      go (inr i) =
          let p = pairs_at nothing (rw (listed_ops g) at by_time_lem) a b i (omega (arith, length-map rows (op_at t))) in
          let c : a < length rows = omega arith in
          no_larger (row_op t rows a) (row_op t rows b) (row_in a c) (row_in b k) (omega (arith, p.0, at a c, at b k))

  module _ (w j : ℕ) (l : j < length rows) (q : get_or C.writer j 0 ≡ w) (own : get_or C.writer w 0 ≡ w) (even : get_or C.finish w 0 % 2 ≡ 0) where
    long : length H ≡ length rows
    long = omega (arith, size_is (of g m), made_size g m)

    inside : w < length rows
    inside = omega (arith, q, long, (of g m).inside j (omega (arith, long)))

    -- no operation of the cluster finishes below the write, as the columns have it
    below : (op H w).finish ≤ (op H j).finish
    below =
        let p = (of g m).prepared in
        let k = write_at (of g m) w (omega (arith, made_size g m, inside)) own in
        let v : (op H j).value ≡ (op H w).value = sym ((of g m).value j (omega (arith, long))) ∙ ap (λ (x : ℕ). (op H x).value) q in
        omega (arith, first_finish_lem p k, ends_from p {w = op H w} {x = op H j} k (get_d_in H nothing j (omega (arith, long))) v)

    column : get_or C.finish w 0 ≡ (op H w).finish
    column = ap (λ (x : List ℕ). get_or x w 0) (of g m).finishes ∙ get_d_map (λ o. o.finish) H w 0 nothing (omega (arith, long, inside))

    in_ranks : (i : ℕ) → i < length rows → In (by_rank h (row_op t rows i)) R
    in_ranks i k = ranked_in g.screened (history_rows t register) (row_in i k)

    unshortened : (row_op t rows w).finish ≤ (row_op t rows j).finish
    unshortened = go (new R (by_rank h (row_op t rows w)) (in_ranks w inside))
      where
        sooner : {d e : Event} → Placed d → Placed e → d.stamp < e.stamp → Sooner d e
        sooner (inl (a, b)) (inl (p, q)) l = absurd (omega arith)
        sooner (inl (a, b)) (inr p) l = inl (omega arith)
        sooner (inr a) (inl (p, q)) l = absurd (omega arith)
        sooner (inr a) (inr p) l = inr (omega arith, inl l)

        no_sooner_lem : (by_rank h (row_op t rows w)).finish ≤ (by_rank h (row_op t rows j)).finish → Dec ((row_op t rows j).finish < (row_op t rows w).finish) → (row_op t rows w).finish ≤ (row_op t rows j).finish
        no_sooner_lem k (no d) = omega arith
        no_sooner_lem k (yes d) =
            let s = g.screened.spans in
            let p = sooner (placed_finish (row_op t rows j) (s _ (row_in j l))) (placed_finish (row_op t rows w) (s _ (row_in w inside))) d in
            absurd (omega (arith, k, rank_rises h {d = finishing (row_op t rows j)} {e = finishing (row_op t rows w)} (finish_in h (row_in j l)) p))

        go : New R (by_rank h (row_op t rows w)) → (row_op t rows w).finish ≤ (row_op t rows j).finish
        go (whole e) =
            no_sooner_lem (omega (arith, e, finish_at_lem g w inside, finish_at_lem g j l, below, new_le R (by_rank h (row_op t rows j)) (in_ranks j l)))
            (dec_lt (row_op t rows j).finish (row_op t rows w).finish)
        go (cut r d k e) =
            let s = timed g.screened (history_rows t register) in
            absurd (omega (arith, even, column, finish_at_lem g w inside, e, s.cross r r d.mem d.mem, s.proper.span r d.mem))

  pub timely : Timely t rows C.finish C.writer
  timely = record { sized = (made_sound g m).ending ∙ made_size g m; rising = starts_rise; whole = λ w j l q own even. unshortened w j l q own even }
