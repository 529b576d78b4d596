-- The rows of a screened register by rising time: their operations, that the columns can be made from them, and the write of each.
-- Assumes nothing.
use Prim.Native.Nat.{ℕ, ◌≤◌, ◌<◌}
use mathlib.Core.Path.{◌≡◌, refl, sym, ap, ◌∙◌}
use mathlib.Core.Logic.{◌⊎◌, inl, inr}
use mathlib.Core.Bool.{true, false}
use mathlib.Core.List.{List, map, Memᴰ as In}
use native.Mathlib.Omega.{arith}
use lib.ListN.{length, get_or, length-map}
use Rattle.lists.specs.Sorts.{sort}
use Rattle.lists.specs.Pairs.{Pairs}
use Rattle.lists.proofs.Tests.{test}
use Rattle.lists.proofs.Maps.{in_map, map_in}
use Rattle.lists.proofs.Sorts.{in_sort, sort_in, sort_length, sort_apart}
use Rattle.lists.proofs.Images.{sort_map, get_d_map, get_d_in, pairs_at}
use Rattle.history.specs.declared.Op.{Op}
use Rattle.history.specs.Table.{largest_count, op_at, rows_of, history, is_write}
use Rattle.history.proofs.Rows.{in_rows, history_count, rows_few}
use Rattle.preparation.specs.Times.{begins_first, by_time}
use Rattle.methods.specs.Mark.{row_numbers}
use Rattle.witnesses.specs.Histories.{Apart, Proper}
use Rattle.preparation.proofs.Timed.{screened_proper}
use Rattle.preparation.proofs.Rows.{rows_back, history_rows}
use Rattle.positions.proofs.Places.{below}
use Rattle.positions.specs.Columns.{nothing, op}
use Rattle.ranking.specs.Ranked.{Fit, Stands}
use Rattle.columns.specs.Rows.{Listed}
use Rattle.writers.specs.Writers.{writes_at, writer_of, row_op}
use Rattle.writers.proofs.Seeking.{writes_is, is_writes, seek_in}
use Rattle.columns.specs.Writers.{Tied}

-- the rows by rising time
pub sorted_rows : List ℕ → ℕ → List ℕ
sorted_rows t register = sort (λ x y. begins_first (op_at t x) (op_at t y)) (rows_of t register)

pub sorted_is : (t : List ℕ) (register : ℕ) → sorted_rows t register ≡ sort (λ x y. begins_first (op_at t x) (op_at t y)) (rows_of t register)
unfolding sorted_rows
sorted_is t register = refl

module _ (t : List ℕ) (register : ℕ) where
  sorted_ops : by_time (history t register) ≡ map (op_at t) (sorted_rows t register)
  unfolding by_time history sorted_rows
  sorted_ops = sort_map (op_at t) begins_first (rows_of t register)

  pub sorted_numbers : row_numbers (by_time (history t register)) ≡ sorted_rows t register
  sorted_numbers = ap (λ (o : List Op). row_numbers o) sorted_ops ∙ rows_back t (sorted_rows t register)

  in_sorted : {x : ℕ} → In x (sorted_rows t register) → In x (rows_of t register)
  unfolding sorted_rows
  in_sorted m = in_sort (λ x y. begins_first (op_at t x) (op_at t y)) (rows_of t register) m

module _ {t : List ℕ} {register : ℕ} {rows : List ℕ} (g : Listed t register rows) where
  rows_are : rows ≡ sorted_rows t register
  rows_are = g.listed ∙ sorted_numbers t register

  -- the register's operations by rising time are those of the rows
  pub listed_ops : by_time (history t register) ≡ map (op_at t) rows
  listed_ops = sorted_ops t register ∙ ap (map (op_at t)) (sym rows_are)

  -- the register's history, as the screening leaves it
  proper : Proper (history t register)
  proper = screened_proper g.screened (history_rows t register)

  pub listed_stands : Stands t rows (history t register)
  listed_stands = record { rise = history_rows t register; sorted = listed_ops }

  pub in_history : {x : ℕ} → In x rows → In (op_at t x) (history t register)
  unfolding history
  in_history {x} m = map_in (op_at t) (in_sorted t register (rw rows_are at m))

  -- an operation of the register is one of the rows'
  from_history : {o : Op} → In o (history t register) → In o (map (op_at t) rows)
  unfolding by_time
  from_history m = rw listed_ops at (sort_in begins_first (history t register) m)

  pub listed_fit : Fit t rows
  listed_fit =
      record {
        inside = λ x m. omega (arith, (in_rows t register (in_sorted t register (rw rows_are at m))).exists);
        spans = λ x m. g.screened.spans (op_at t x) (in_history m);
      }

  pub listed_few : length rows ≤ largest_count
  unfolding sorted_rows
  listed_few =
      omega
      (arith, ap length rows_are, sort_length (λ x y. begins_first (op_at t x) (op_at t y)) (rows_of t register), history_count t register, rows_few t register, g.screened.few)

  -- each row has a write of its value among the rows
  has_write : (x : ℕ) → In x rows → (y : ℕ) × In y rows × (writes_at t (op_at t x).value y ≡ true)
  has_write x m = go (test (is_write (op_at t x)))
    where
      go : (is_write (op_at t x) ≡ true) ⊎ (is_write (op_at t x) ≡ false) → (y : ℕ) × In y rows × (writes_at t (op_at t x).value y ≡ true)
      go (inl e) = (x, m, is_writes (op_at t x).value (op_at t x) e refl)
      go (inr e) =
          let d = proper.dict (op_at t x) (in_history m) e in
          let y = in_map (op_at t) rows (from_history d.1.by.mem) in
          (y.0, y.1, is_writes (op_at t x).value (op_at t y.0) (ap is_write (sym y.2) ∙ d.1.by.write) (ap (λ o. o.value) (sym y.2) ∙ d.1.same))

  -- the rows differ, so an operation stands at one position
  apart : Pairs Apart (map (op_at t) rows)
  unfolding by_time
  apart = rw listed_ops at (sort_apart begins_first Apart (λ x y d e. d (sym e)) proper.rows)

  at_one : (i j : ℕ) → i < length rows → j < length rows → row_op t rows i ≡ row_op t rows j → i ≡ j
  at_one i j h k e = go (below i j) (below j i)
    where
      row : (a : ℕ) → a < length rows → (get_or (map (op_at t) rows) a (op_at t 0)).row ≡ (row_op t rows a).row
      row a l = ap (λ (o : Op). o.row) (get_d_map (op_at t) rows a (op_at t 0) 0 l)

      no : (a b : ℕ) → a < b → b < length rows → row_op t rows a ≡ row_op t rows b → ⊥
      no a b l m q =
          pairs_at (op_at t 0) apart a b l (omega (arith, length-map rows (op_at t)))
          (row a (omega arith) ∙ ap (λ (x : Op). x.row) q ∙ sym (row b m))

      go : (i < j) ⊎ (j ≤ i) → (j < i) ⊎ (i ≤ j) → i ≡ j
      go (inl l) d = absurd (no i j l k e)
      go (inr l) (inl m) = absurd (no j i m h (sym e))
      go (inr l) (inr m) = omega arith

  only : (i k : ℕ) → i < length rows → k < length rows → is_write (row_op t rows i) ≡ true → is_write (row_op t rows k) ≡ true
      → (row_op t rows i).value ≡ (row_op t rows k).value → i ≡ k
  only i k h l a b e =
      at_one i k h l
      (proper.one (row_op t rows i) (row_op t rows k)
      (record { mem = in_history (get_d_in rows 0 i h); write = a })
      (record { mem = in_history (get_d_in rows 0 k l); write = b }) e)

  -- THE WRITERS of the rows' operations, with whatever stamps
  module _ (f : ℕ → Op) (kind : (x : ℕ) → is_write (f x) ≡ is_write (op_at t x)) (value : (x : ℕ) → (f x).value ≡ (op_at t x).value) where
    pub listed_tied : Tied (map f rows) (map (writer_of t rows) rows)
    listed_tied =
        record {
          long = length-map rows _ ∙ sym size;
          inside = λ j h. let l = under j h in rw (at j l, size) (found j l).0;
          write = λ j h. let l = under j h in rw (at j l, here (writer_of t rows (get_or rows j 0)) (found j l).0, kind _) (is j l).0;
          value = λ j h. let l = under j h in rw (at j l, here (writer_of t rows (get_or rows j 0)) (found j l).0, here j l, value _, value _) (is j l).1;
          one = λ i j h k e d.
              let a = under i h in
              let b = under j k in
              at j b
              ∙ sym (only i (writer_of t rows (get_or rows j 0)) a (found j b).0 (sym (kind _) ∙ ap is_write (sym (here i a)) ∙ e) (is j b).0
              (sym (value _) ∙ ap (λ o. o.value) (sym (here i a)) ∙ d ∙ ap (λ o. o.value) (here j b) ∙ value _ ∙ sym (is j b).1));
        }
      where
        size : length (map f rows) ≡ length rows
        size = length-map rows f

        under : (j : ℕ) → j < length (map f rows) → j < length rows
        under j h = omega (arith, size)

        here : (j : ℕ) → j < length rows → op (map f rows) j ≡ f (get_or rows j 0)
        here j h = get_d_map f rows j nothing 0 h

        at : (j : ℕ) → j < length rows → get_or (map (writer_of t rows) rows) j 0 ≡ writer_of t rows (get_or rows j 0)
        at j h = get_d_map (writer_of t rows) rows j 0 0 h

        found : (j : ℕ) → j < length rows
            → (writer_of t rows (get_or rows j 0) < length rows) × (writes_at t (row_op t rows j).value (get_or rows (writer_of t rows (get_or rows j 0)) 0) ≡ true)
        found j h = let y = has_write (get_or rows j 0) (get_d_in rows 0 j h) in seek_in (writes_at t (row_op t rows j).value) rows y.1 y.2

        is : (j : ℕ) → j < length rows
            → (is_write (row_op t rows (writer_of t rows (get_or rows j 0))) ≡ true) × ((row_op t rows (writer_of t rows (get_or rows j 0))).value ≡ (row_op t rows j).value)
        is j h = writes_is (row_op t rows j).value (row_op t rows (writer_of t rows (get_or rows j 0))) (found j h).1
