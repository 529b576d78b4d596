-- A log with its stamps written as clock time loads as the log does.
-- Assumes nothing.
use Prim.Native.Nat.{ℕ, zero, suc, ◌+◌, ◌/◌, ◌%◌, ◌<◌}
use mathlib.Core.Path.{◌≡◌, refl, sym, ap, ◌∙◌}
use mathlib.Core.Bool.{Bool, true, false, cond, ◌||◌}
use mathlib.Core.List.Memᴰ.{head as here}
use mathlib.Core.List.Memᴰ.{tail as there}
use mathlib.Core.List.{List, [], ◌∷◌, map}
use native.Mathlib.Omega.{arith}
use borrow.Author.Tests.{ne_eqb, eqb-true, ltb-false}
use lib.Dec.{eqb, ltb}
use lib.ListN.{length, get_or, length-map}
use Rattle.lists.specs.Lists.{all}
use Rattle.lists.proofs.Maps.{in_map}
use Rattle.history.specs.Table.{largest_stamp}
use Rattle.text.specs.Decimal.{digit, digits, decimal}
use Rattle.std.specs.Prelude.{Option, Some, None}
use Rattle.parsing.specs.Numbers.{is_digit, is_number}
use Rattle.parsing.proofs.Back.{digits_digits}
use Rattle.clock.specs.Clock.{time_of, clock_of, stamp_in}
use Rattle.clock.proofs.Days.{digits_both}
use Rattle.clock.proofs.Forms.{stamp_text}
use Rattle.cells.specs.Parts.{comma, feed}
use Rattle.cells.specs.Grids.{bytes_of, Free, AllFree}
use Rattle.cells.proofs.Parting.{free_append}
use Rattle.headers.specs.declared.Columns.{Columns}
use Rattle.headers.specs.Header.{register_name, kind_name, value_name, start_name, finish_name, header_cells, columns_of}
use Rattle.log_tables.specs.Logs.{said_in, row_of, load_answer}
use Rattle.log_tables.specs.Grids.{NamesIn, Readable, Grid}
use Rattle.log_tables.specs.Shuffled.{rows_in}
use Rattle.log_tables.specs.Stamps.{as_clock, clock_cell, clock_cells, clocked, LoadsClocked}
use Rattle.log_tables.proofs.Rows.{rows_same}
use Rattle.log_tables.proofs.Grids.{place_below, loads_passes, loads_grid, loads_table, rows_count, copy_loads}
use Rattle.log_tables.proofs.Stamps.{Stands, said_start, said_finish}

-- a cell so written says the same
as_clock_said : (t : List ℕ) (n : Option ℕ) → stamp_in t ≡ n → stamp_in (as_clock t n) ≡ n
unfolding as_clock
as_clock_said t None e = e
as_clock_said t (Some s) e = go (ltb largest_stamp s) refl
  where
    go : (b : Bool) → ltb largest_stamp s ≡ b → stamp_in (cond b t (clock_of s)) ≡ Some s
    go true f = e
    go false f = stamp_text s (ltb-false largest_stamp s f)

-- clock time has no byte below the point, so no comma and no line feed
module _ (c : ℕ) (low : c < 46) where
  not_digit : (n : ℕ) → eqb (digit n) c ≡ false
  not_digit n = ne_eqb (digit n) c (λ e. omega arith)

  digits_free : (t : List ℕ) → all is_digit t ≡ true → Free c t
  digits_free [] h = tt
  digits_free (b ∷ t) h = let d = digits_both b t h in (ne_eqb b c (λ e. omega (arith, d.0)), digits_free t d.2)

  time_free : (s : ℕ) → Free c (time_of s)
  time_free s =
      let colons : eqb 58 c ≡ false = ne_eqb 58 c (λ e. omega arith) in
      let points : eqb 46 c ≡ false = ne_eqb 46 c (λ e. omega arith) in
      let h = s / 3600000 % 24 in
      let m = s / 60000 % 60 in
      let x = s / 1000 % 60 in
      let u = s % 1000 in
      (colons, (not_digit (h / 10), (not_digit h, (colons, (not_digit (m / 10), (not_digit m, (colons, (not_digit (x / 10), (not_digit x, (points, (not_digit (u / 100), (not_digit (u / 10), (not_digit u, tt)))))))))))))

  clock_free : (s : ℕ) → Free c (clock_of s)
  unfolding clock_of decimal
  clock_free s =
      free_append c (digits 20 (s / 86400000)) (time_of s) (digits_free (digits 20 (s / 86400000)) (digits_digits 20 (s / 86400000))) (time_free s)

  as_clock_free : (t : List ℕ) (n : Option ℕ) → Free c t → Free c (as_clock t n)
  unfolding as_clock
  as_clock_free t None f = f
  as_clock_free t (Some s) f = go (ltb largest_stamp s)
    where
      go : (b : Bool) → Free c (cond b t (clock_of s))
      go true = f
      go false = clock_free s

  cells_free : (ps : Columns) (k : ℕ) (r : List (List ℕ)) → AllFree c r → AllFree c (clock_cells ps k r)
  unfolding clock_cells
  cells_free ps k (t ∷ r) f x (here q) = rw q (go (eqb k ps.start || eqb k ps.finish))
    where
      go : (b : Bool) → Free c (cond b (as_clock t (stamp_in t)) t)
      go true = as_clock_free t (stamp_in t) (f t (here refl))
      go false = f t (here refl)
  cells_free ps k (t ∷ r) f x (there m) = cells_free ps (suc k) r (λ y i. f y (there i)) x m
  cells_free ps k [] f x x4 = elim x4 [ ]

cells_long : (ps : Columns) (k : ℕ) (r : List (List ℕ)) → length (clock_cells ps k r) ≡ length r
unfolding clock_cells
cells_long ps k [] = refl
cells_long ps k (t ∷ r) = ap suc (cells_long ps (suc k) r)

cells_at : (ps : Columns) (k : ℕ) (r : List (List ℕ)) (j : ℕ) → j < length r → get_or (clock_cells ps k r) j [] ≡ clock_cell ps (k + j) (get_or r j [])
unfolding clock_cells
cells_at ps k [] j h = absurd (omega arith)
cells_at ps k (t ∷ r) zero h = let e : k + 0 ≡ k = omega arith in rw e refl
cells_at ps k (t ∷ r) (suc j) h = let e : k + suc j ≡ suc k + j = omega arith in rw e (cells_at ps (suc k) r j (omega arith))

-- a row so written says the same in each column
module _ (names : List (List ℕ)) (ps : Columns) (named : NamesIn names ps) where
  cell_said : (j : ℕ) (t : List ℕ) → said_in ps j (clock_cell ps j t) ≡ said_in ps j t
  cell_said j t = go (eqb j ps.start) refl (eqb j ps.finish) refl
    where
      go : (a : Bool) → eqb j ps.start ≡ a → (b : Bool) → eqb j ps.finish ≡ b
          → said_in ps j (cond (a || b) (as_clock t (stamp_in t)) t) ≡ said_in ps j t
      go true e b f =
          rw (eqb-true j ps.start e)
          (said_start names ps named (as_clock t (stamp_in t)) ∙ as_clock_said t (stamp_in t) refl ∙ sym (said_start names ps named t))
      go false e true f =
          rw (eqb-true j ps.finish f)
          (said_finish names ps named (as_clock t (stamp_in t)) ∙ as_clock_said t (stamp_in t) refl ∙ sym (said_finish names ps named t))
      go false e false f = refl

  module _ (r : List (List ℕ)) (g : Readable ps (length names) r) where
    said_alike : (j : ℕ) → j < length names → said_in ps j (get_or (clock_cells ps 0 r) j []) ≡ said_in ps j (get_or r j [])
    said_alike j h =
        let e : 0 + j ≡ j = omega arith in
        ap (said_in ps j) (cells_at ps 0 r j (omega (arith, g.wide)) ∙ ap (λ (k : ℕ). clock_cell ps k (get_or r j [])) e) ∙ cell_said j (get_or r j [])

    clocked_readable : Readable ps (length names) (clock_cells ps 0 r)
    clocked_readable =
        record {
          wide = cells_long ps 0 r ∙ g.wide;
          said = λ j h. ap is_number (said_alike j h) ∙ g.said j h;
          commas = cells_free comma (omega arith) ps 0 r g.commas;
          feeds = cells_free feed (omega arith) ps 0 r g.feeds;
        }

    clocked_row : row_of ps (clock_cells ps 0 r) ≡ row_of ps r
    clocked_row =
        let alike : (m : List ℕ) (p : ℕ) → Stands names m p → said_in ps p (get_or (clock_cells ps 0 r) p []) ≡ said_in ps p (get_or r p []) =
        λ m p e. said_alike p (place_below names m p e) in
        rw
        (alike register_name ps.register named.register, alike kind_name ps.kind named.kind, alike value_name ps.value named.value, alike start_name ps.start named.start, alike finish_name ps.finish named.finish)

clocked_grid : (names : List (List ℕ)) (rows : List (List (List ℕ))) (ps : Columns) → Grid names rows ps → Grid names (map (clock_cells ps 0) rows) ps
clocked_grid names rows ps g =
    record {
      named = g.named;
      commas = g.commas;
      feeds = g.feeds;
      readable =
          λ x m.
          let f = in_map (clock_cells ps 0) rows m in
          rw f.2 (clocked_readable names ps g.named f.0 (g.readable f.0 f.1));
      few = omega (arith, length-map rows (clock_cells ps 0), g.few);
    }

-- A log that loads and the log with its stamps as clock time load with the same answer, as the same table.
pub clocked_loads : (bs table : List ℕ) → (load_answer bs table).code ≡ 0 → LoadsClocked bs table
unfolding clocked
clocked_loads bs table z =
    let p = loads_passes bs table z in
    let ps = columns_of bs in
    let names = bytes_of (header_cells bs) in
    let rows = rows_in bs in
    let g = loads_grid bs table p in
    copy_loads bs table p names (map (clock_cells ps 0) rows) ps (clocked_grid names rows ps g) (length-map rows (clock_cells ps 0) ∙ rows_count bs table p)
    (rows_same ps ps (clock_cells ps 0) rows (λ r m. clocked_row names ps g.named r (g.readable r m)) ∙ sym (loads_table bs table p))
