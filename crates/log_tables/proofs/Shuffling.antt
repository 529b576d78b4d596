-- A log that loads and its column-shuffled copy load as the same table.
-- Assumes nothing.
use Prim.Native.Nat.{ℕ, ◌<◌}
use mathlib.Core.Path.{◌≡◌, sym, ap, ◌∙◌}
use mathlib.Core.List.{List, [], map, Memᴰ as In}
use native.Mathlib.Nat.{zero-add}
use native.Mathlib.Omega.{arith}
use lib.Dec.{eqb}
use lib.ListN.{length, get_or, length-map}
use Rattle.lists.proofs.Maps.{in_map}
use Rattle.cells.specs.Parts.{comma, feed}
use Rattle.cells.specs.Grids.{bytes_of, rearranged, laid}
use Rattle.cells.proofs.Grids.{rearranged_free}
use Rattle.headers.specs.declared.Column.TheVariants.{Missing, Only}
use Rattle.headers.specs.declared.Columns.{Columns}
use Rattle.headers.specs.Header.{register_name, kind_name, value_name, start_name, finish_name, column_from, header_cells, columns_of}
use Rattle.log_tables.specs.Logs.{row_of, load_answer}
use Rattle.log_tables.specs.Grids.{NamesIn, Readable, Grid}
use Rattle.log_tables.specs.Shuffled.{Reorders, rows_in, shuffled, LoadsAlike}
use Rattle.log_tables.proofs.Places.{place_in, placed, Places, Holds, said_quiet, number_placed, named_placed, placed_named}
use Rattle.log_tables.proofs.Rows.{told_said, rows_same}
use Rattle.log_tables.proofs.Grids.{loads_passes, place_below, names_hold, names_wide, rows_count, loads_grid, loads_table, copy_loads}

-- the needed columns in another order
abbrev pub columns_in : List ℕ → Columns → Columns
columns_in o ps =
    record {
      register = place_in 0 ps.register o;
      kind = place_in 0 ps.kind o;
      value = place_in 0 ps.value o;
      start = place_in 0 ps.start o;
      finish = place_in 0 ps.finish o;
    }

module _ (names : List (List ℕ)) (ps : Columns) (f : NamesIn names ps) (o : List ℕ) (re : Reorders (length names) o) where
  holds : Holds ps o
  holds = names_hold names ps f o re.each

  in_order_lem : Places (columns_in o ps) ps 0 o
  in_order_lem =
      record {
        register = placed ps.register 0 o re.once holds.register;
        kind = placed ps.kind 0 o re.once holds.kind;
        value = placed ps.value 0 o re.once holds.value;
        start = placed ps.start 0 o re.once holds.start;
        finish = placed ps.finish 0 o re.once holds.finish;
      }

  -- the names so rearranged
  name_after : (m : List ℕ) (p : ℕ) → column_from m Missing (laid 0 0 names) ≡ Only p → column_from m Missing (laid 0 0 (rearranged o names)) ≡ Only (place_in 0 p o)
  name_after m p e =
      named_placed m (λ j. get_or names j []) p 0 0 o re.once (re.each p (place_below names m p e))
      (λ j i. (placed_named m p 0 0 names e).2 j (re.only j i) ∙ ap (λ (k : ℕ). eqb k p) (zero-add j))

  names_after : NamesIn (rearranged o names) (columns_in o ps)
  names_after =
      record {
        register = name_after register_name ps.register f.register;
        kind = name_after kind_name ps.kind f.kind;
        value = name_after value_name ps.value f.value;
        start = name_after start_name ps.start f.start;
        finish = name_after finish_name ps.finish f.finish;
      }

  wide_after : (r : List (List ℕ)) → length (rearranged o r) ≡ length (rearranged o names)
  wide_after r = length-map o (λ j. get_or r j []) ∙ sym (length-map o (λ j. get_or names j []))

  -- a row so rearranged loads, and says the same
  module _ (r : List (List ℕ)) (g : Readable ps (length names) r) where
    inside : (j : ℕ) → In j o → j < length r
    inside j m = omega (arith, re.only j m, g.wide)

    readable_after : Readable (columns_in o ps) (length (rearranged o names)) (rearranged o r)
    readable_after =
        record {
          wide = wide_after r;
          said =
              told_said (columns_in o ps) (length (rearranged o names)) (rearranged o r) (wide_after r) 0
              (said_quiet (columns_in o ps) ps (λ j. get_or r j []) 0 0 o in_order_lem (λ j m. g.said j (re.only j m)));
          commas = rearranged_free comma o r inside g.commas;
          feeds = rearranged_free feed o r inside g.feeds;
        }

    row_after : row_of (columns_in o ps) (rearranged o r) ≡ row_of ps r
    row_after =
        let by = number_placed o in_order_lem r in
        rw
        (by ps.register holds.register, by ps.kind holds.kind, by ps.value holds.value, by ps.start holds.start, by ps.finish holds.finish)

-- A grid with its columns in another order loads too.
pub grid_after : (names : List (List ℕ)) (rows : List (List (List ℕ))) (ps : Columns) → Grid names rows ps → (o : List ℕ) → Reorders (length names) o
    → Grid (rearranged o names) (map (rearranged o) rows) (columns_in o ps)
grid_after names rows ps g o re =
    record {
      named = names_after names ps g.named o re;
      commas = rearranged_free comma o names re.only g.commas;
      feeds = rearranged_free feed o names re.only g.feeds;
      readable =
          λ x m.
          let f = in_map (rearranged o) rows m in
          rw f.2 (readable_after names ps g.named o re f.0 (g.readable f.0 f.1));
      few = omega (arith, length-map rows (rearranged o), g.few);
    }

-- A log that loads and its column-shuffled copy load with the same answer, as the same table.
pub shuffled_loads : (bs table : List ℕ) → (load_answer bs table).code ≡ 0 → LoadsAlike bs table
unfolding shuffled
shuffled_loads bs table z o re =
    let p = loads_passes bs table z in
    let names = bytes_of (header_cells bs) in
    let rows = rows_in bs in
    let g = loads_grid bs table p in
    let re' : Reorders (length (bytes_of (header_cells bs))) o = rw (names_wide bs table p) re in
    copy_loads bs table p (rearranged o names) (map (rearranged o) rows) (columns_in o (columns_of bs)) (grid_after names rows (columns_of bs) g o re')
    (length-map rows (rearranged o) ∙ rows_count bs table p)
    (rows_same (columns_of bs) (columns_in o (columns_of bs)) (rearranged o) rows (λ r m. row_after names (columns_of bs) g.named o re' r (g.readable r m))
    ∙ sym (loads_table bs table p))
