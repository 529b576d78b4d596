-- The text of a grid of cells loads as the table of the grid, and what loads is the text of such a grid.
-- Assumes nothing.
use Prim.Native.Nat.{ℕ, ◌+◌, ◌*◌, ◌≤◌, ◌<◌}
use mathlib.Core.Path.{◌≡◌, refl, sym, ap, ◌∙◌}
use mathlib.Core.Bool.{Bool, true, false, cond, not}
use mathlib.Core.List.Memᴰ.{head as here}
use mathlib.Core.List.Memᴰ.{tail as there}
use mathlib.Core.List.{List, [], ◌∷◌, ◌++◌, flat_map, Memᴰ as In}
use native.Mathlib.Omega.{arith}
use borrow.Author.Tests.{eq-eqb, lt-ltb, ltb-false, le-ltb, lt-leb, not-false}
use lib.Dec.{ltb}
use lib.ListN.{length, drop, length-append, length-map, length-drop}
use lib.Seq.{drop-drop, drop-append-add}
use Rattle.std.specs.Prelude.{None}
use Rattle.lists.specs.Lists.{all, first}
use Rattle.history.specs.declared.Answer.{Answer}
use Rattle.history.specs.Table.{largest_count}
use Rattle.history.specs.Answer.{passed}
use Rattle.history.proofs.Refusals.{NoFault, Coded, coded_append, no_fault_append, no_fault_left, no_fault_right, code_no_fault, no_fault_answer, if_so_lem, if_not}
use Rattle.records.specs.Records.{cells}
use Rattle.files.specs.Files.{room_test, after}
use Rattle.parsing.specs.Numbers.{front}
use Rattle.cells.specs.Parts.{comma, feed, Part, part, parts, cells_of, lines_from}
use Rattle.cells.specs.Grids.{joined, text_of, bytes_of, laid}
use Rattle.cells.proofs.Parting.{front_free}
use Rattle.cells.proofs.Grids.{bytes_laid, length_laid, joined_laid, joined_free, parts_laid, parts_free, parts_keep, front_line, line_parts, length_lines, grid_lines}
use Rattle.headers.specs.declared.Column.{Column}
use Rattle.headers.specs.declared.Column.TheVariants.{Missing, Only, Repeated}
use Rattle.headers.specs.declared.Columns.{Columns}
use Rattle.headers.specs.Header.{register_name, kind_name, value_name, start_name, finish_name, column_from, header_cells, width, column_of, named_from, is_only, place, places_of, complete, sound_header, columns_of}
use Rattle.log_tables.specs.Logs.{unreadable, row_of, data_lines, line_tests, log_tests, rows_of, log_table, load_tests, load_answer, load_table, LoadsAs}
use Rattle.log_tables.specs.Grids.{NamesIn, Readable, Grid, rows_table, GridLoads}
use Rattle.log_tables.specs.Shuffled.{rows_in}
use Rattle.log_tables.proofs.Testing.{lines_coded}
use Rattle.log_tables.proofs.Places.{Holds, placed_named}
use Rattle.log_tables.proofs.Rows.{said_told, lines_readable, lines_rows, lines_few, lines_free}

-- What a log that loads passes, and that what passes it loads.
pub record Passes (bs table : List ℕ) : Type 0 where
  pub sound : sound_header bs ≡ true
  pub quiet : NoFault (flat_map (line_tests bs (columns_of bs) (width bs)) (data_lines bs))
  pub room : length (data_lines bs) * 5 ≤ length table

module _ (bs table : List ℕ) where
  tests_coded : Coded (load_tests bs (length table))
  unfolding load_tests log_tests
  tests_coded = (
    λ z. omega arith,
    coded_append (flat_map (line_tests bs (columns_of bs) (width bs)) (data_lines bs)) (room_test (length (data_lines bs) * 5) (length table) ∷ [])
        (lines_coded bs (columns_of bs) (width bs) (data_lines bs)) (λ z. omega arith, tt),
  )

  pub loads_passes : (load_answer bs table).code ≡ 0 → Passes bs table
  unfolding load_answer load_tests log_tests
  loads_passes z =
      let q = code_no_fault (load_tests bs (length table)) tests_coded (passed (length (data_lines bs))) z in
      let ts = flat_map (line_tests bs (columns_of bs) (width bs)) (data_lines bs) in
      let rs = room_test (length (data_lines bs) * 5) (length table) ∷ [] in
      record {
        sound = not-false (sound_header bs) (if_so_lem (not (sound_header bs)) q.0);
        quiet = no_fault_left ts rs q.1;
        room = ltb-false (length table) (length (data_lines bs) * 5) (if_so_lem (ltb (length table) (length (data_lines bs) * 5)) (no_fault_right ts rs q.1).0);
      }

  pub passes_loads : Passes bs table → load_answer bs table ≡ passed (length (data_lines bs))
  unfolding load_answer load_tests log_tests
  passes_loads p =
      let ts = flat_map (line_tests bs (columns_of bs) (width bs)) (data_lines bs) in
      let rs = room_test (length (data_lines bs) * 5) (length table) ∷ [] in
      no_fault_answer (load_tests bs (length table)) (passed (length (data_lines bs)))
      (rw p.sound, no_fault_append ts rs p.quiet (if_not (ltb (length table) (length (data_lines bs) * 5)) (le-ltb (length table) (length (data_lines bs) * 5) p.room), tt))

module _ (names : List (List ℕ)) where
  pub place_below : (m : List ℕ) (p : ℕ) → column_from m Missing (laid 0 0 names) ≡ Only p → p < length names
  place_below m p e = omega (arith, (placed_named m p 0 0 names e).1)

  pub names_hold : (ps : Columns) → NamesIn names ps → (l : List ℕ) → ((k : ℕ) → k < length names → In k l) → Holds ps l
  names_hold ps f l each =
      record {
        register = each ps.register (place_below register_name ps.register f.register);
        kind = each ps.kind (place_below kind_name ps.kind f.kind);
        value = each ps.value (place_below value_name ps.value f.value);
        start = each ps.start (place_below start_name ps.start f.start);
        finish = each ps.finish (place_below finish_name ps.finish f.finish);
      }

  pub names_some : (ps : Columns) → NamesIn names ps → 0 < length names
  names_some ps f = omega (arith, place_below kind_name ps.kind f.kind)

cond_both : (a b : Bool) → cond a b false ≡ true → (a ≡ true) × (b ≡ true)
cond_both true b e = (refl, e)
cond_both false b e = let z : ◌≡◌ {A = ℕ} 0 1 = cc in absurd (omega arith)

only_is : (c : Column) → is_only c ≡ true → c ≡ Only (place c)
unfolding is_only place
only_is Missing e = let z : ◌≡◌ {A = ℕ} 0 1 = cc in absurd (omega arith)
only_is (Only k) e = refl
only_is Repeated e = let z : ◌≡◌ {A = ℕ} 0 1 = cc in absurd (omega arith)

-- the header of a text, with its names laid out
module _ (bs : List ℕ) (names : List (List ℕ)) (e : header_cells bs ≡ laid 0 0 names) where
  column_in : (m : List ℕ) → column_of m bs ≡ column_from m Missing (laid 0 0 names)
  column_in m = ap (column_from m Missing) e

  pub sound_names : sound_header bs ≡ true → NamesIn names (columns_of bs)
  unfolding sound_header complete all named_from places_of
  sound_names t =
      let a = cond_both (ltb (length (front bs)) (length bs)) _ t in
      let r = cond_both (is_only (column_of register_name bs)) _ a.1 in
      let k = cond_both (is_only (column_of kind_name bs)) _ r.1 in
      let v = cond_both (is_only (column_of value_name bs)) _ k.1 in
      let s = cond_both (is_only (column_of start_name bs)) _ v.1 in
      record {
        register = sym (column_in register_name) ∙ only_is (column_of register_name bs) r.0;
        kind = sym (column_in kind_name) ∙ only_is (column_of kind_name bs) k.0;
        value = sym (column_in value_name) ∙ only_is (column_of value_name bs) v.0;
        start = sym (column_in start_name) ∙ only_is (column_of start_name bs) s.0;
        finish = sym (column_in finish_name) ∙ only_is (column_of finish_name bs) (cond_both (is_only (column_of finish_name bs)) _ s.1).0;
      }

  module _ (ps : Columns) (f : NamesIn names ps) where
    pub names_columns : columns_of bs ≡ ps
    unfolding places_of named_from place
    names_columns =
        rw
        (column_in register_name ∙ f.register, column_in kind_name ∙ f.kind, column_in value_name ∙ f.value, column_in start_name ∙ f.start, column_in finish_name ∙ f.finish)

    pub names_sound : length (front bs) < length bs → sound_header bs ≡ true
    unfolding sound_header complete all named_from is_only
    names_sound h =
        rw
        (lt-ltb (length (front bs)) (length bs) h, column_in register_name ∙ f.register, column_in kind_name ∙ f.kind, column_in value_name ∙ f.value, column_in start_name ∙ f.start, column_in finish_name ∙ f.finish)

-- the lines of rows that load, in a text that ends in them, refuse nothing
module _ (ps : Columns) (w : ℕ) (some : 0 < w) where
  module _ (r : List (List ℕ)) (good : Readable ps w r) (n at : ℕ) where
    row_cells : cells_of (part n at (joined r)) ≡ laid 0 at r
    row_cells = joined_laid 0 at r (omega (arith, good.wide)) good.commas

    row_count_lem : length (cells_of (part n at (joined r))) ≡ w
    row_count_lem = ap length row_cells ∙ length_laid 0 at r ∙ good.wide

    row_quiet : first (λ p. p.at) (unreadable ps) (cells_of (part n at (joined r))) ≡ None
    row_quiet = ap (first (λ p. p.at) (unreadable ps)) row_cells ∙ said_told ps w r good.wide at good.said

  pub grid_quiet : (bs : List ℕ) (n at : ℕ) (rs : List (List (List ℕ))) → drop at bs ≡ text_of rs → n + length rs ≤ largest_count
      → ((r : List (List ℕ)) → In r rs → Readable ps w r) → NoFault (flat_map (line_tests bs ps w) (line_parts n at rs))
  unfolding text_of line_parts flat_map line_tests
  grid_quiet bs n at [] e few good = tt
  grid_quiet bs n at (r ∷ rs) e few good =
      let g = good r (here refl) in
      let j = joined r in
      let t = text_of rs in
      let z : at + length j + 1 ≡ at + (length j + 1) = omega arith in
      let rest : drop (at + length j + 1) bs ≡ t = rw z (sym (drop-drop (length j + 1) at bs) ∙ ap (drop (length j + 1)) e ∙ drop-append-add j (feed ∷ t) 1) in
      let ended : at + length j < length bs = omega (arith, ap length e, length-append j (feed ∷ t), length-drop at bs) in
      no_fault_append (line_tests bs ps w (part n at j)) (flat_map (line_tests bs ps w) (line_parts (n + 1) (at + length j + 1) rs)) (
        rw (lt-leb largest_count n (omega arith)),
        (
          rw (lt-ltb (at + length j) (length bs) ended),
          (rw (eq-eqb (length (cells_of (part n at j))) w (row_count_lem r g n at)), (row_quiet r g n at, tt)),
        ),
      )
      (grid_quiet bs (n + 1) (at + length j + 1) rs rest (omega arith) (λ x m. good x (there m)))

  -- and are the rows
  pub grid_rows : (n at : ℕ) (rs : List (List (List ℕ))) → ((r : List (List ℕ)) → In r rs → Readable ps w r) → rows_of ps (line_parts n at rs) ≡ rows_table ps rs
  unfolding line_parts flat_map
  grid_rows n at [] good = refl
  grid_rows n at (r ∷ rs) good =
      let g = good r (here refl) in
      ap (λ (x : List (List ℕ)). cells (row_of ps x) ++ rows_of ps (line_parts (n + 1) (at + length (joined r) + 1) rs))
      (ap bytes_of (row_cells r g n at) ∙ bytes_laid 0 at r)
      ∙ ap (λ (t : List ℕ). cells (row_of ps r) ++ t) (grid_rows (n + 1) (at + length (joined r) + 1) rs (λ x m. good x (there m)))

-- The text of a grid that loads.
module _ (names : List (List ℕ)) (rows : List (List (List ℕ))) (ps : Columns) (g : Grid names rows ps) where
  abbrev text : List ℕ
  text = text_of (names ∷ rows)

  grid_text : text_of (names ∷ rows) ≡ joined names ++ (feed ∷ text_of rows)
  unfolding text_of
  grid_text = refl

  grid_front : front text ≡ joined names
  grid_front = ap front grid_text ∙ front_line (joined names) (text_of rows) (joined_free names g.feeds)

  grid_header : header_cells text ≡ laid 0 0 names
  unfolding header_cells
  grid_header = ap (parts comma 0 0) grid_front ∙ joined_laid 0 0 names (names_some names ps g.named) g.commas

  grid_width : width text ≡ length names
  grid_width = ap length grid_header ∙ length_laid 0 0 names

  grid_rest : drop (length (joined names) + 1) text ≡ text_of rows
  grid_rest = ap (drop (length (joined names) + 1)) grid_text ∙ drop-append-add (joined names) (feed ∷ text_of rows) 1

  grid_data : data_lines text ≡ line_parts 0 (length (joined names) + 1) rows
  unfolding data_lines
  grid_data =
      ap (λ (t : List ℕ). lines_from text 0 (length t + 1)) grid_front
      ∙ grid_lines text 0 (length (joined names) + 1) rows grid_rest (λ r m. (g.readable r m).feeds)

  pub grid_count : length (data_lines (text_of (names ∷ rows))) ≡ length rows
  grid_count = ap length grid_data ∙ length_lines 0 (length (joined names) + 1) rows

  -- It passes, and its table is the grid's.
  pub grid_passes : (table : List ℕ) → length rows * 5 ≤ length table → Passes (text_of (names ∷ rows)) table
  grid_passes table room =
      record {
        sound = names_sound text names grid_header ps g.named (omega (arith, ap length grid_front, ap length grid_text, length-append (joined names) (feed ∷ text_of rows)));
        quiet =
            rw (names_columns text names grid_header ps g.named, grid_width, grid_data)
            (grid_quiet ps (length names) (names_some names ps g.named) text 0 (length (joined names) + 1) rows grid_rest (omega (arith, g.few)) g.readable);
        room = omega (arith, grid_count);
      }

  pub grid_table : log_table (text_of (names ∷ rows)) ≡ rows_table ps rows
  unfolding log_table
  grid_table =
      rw (names_columns text names grid_header ps g.named, grid_data)
      (grid_rows ps (length names) (names_some names ps g.named) 0 (length (joined names) + 1) rows g.readable)

  -- The text of a grid loads as the table of the grid.
  pub grid_loads : GridLoads names rows ps
  unfolding load_table
  grid_loads table room =
      let e = passes_loads text table (grid_passes table room) ∙ ap (λ (k : ℕ). passed k) grid_count in
      (e, ap (λ (a : Answer). after a (log_table text) table) e ∙ ap (λ (t : List ℕ). t ++ drop (length t) table) grid_table)

-- What loads has such a grid, and its table is the grid's.
module _ (bs table : List ℕ) (pass : Passes bs table) where
  header_laid : header_cells bs ≡ laid 0 0 (bytes_of (header_cells bs))
  unfolding header_cells
  header_laid = parts_laid comma 0 0 (front bs)

  pub names_wide : length (bytes_of (header_cells bs)) ≡ width bs
  names_wide = length-map (header_cells bs) (λ p. p.bytes)

  quiet_rows : NoFault (flat_map (line_tests bs (columns_of bs) (length (bytes_of (header_cells bs)))) (data_lines bs))
  quiet_rows = rw names_wide pass.quiet

  named : NamesIn (bytes_of (header_cells bs)) (columns_of bs)
  named = sound_names bs (bytes_of (header_cells bs)) header_laid pass.sound

  pub rows_count : length (rows_in bs) ≡ length (data_lines bs)
  rows_count = length-map (data_lines bs) (λ (l : Part). bytes_of (cells_of l))

  pub loads_grid : Grid (bytes_of (header_cells bs)) (rows_in bs) (columns_of bs)
  unfolding header_cells data_lines
  loads_grid =
      record {
        named = named;
        commas = parts_free comma 0 0 (front bs);
        feeds = parts_keep feed comma 0 0 (front bs) (front_free bs);
        readable = lines_readable bs (columns_of bs) (length (bytes_of (header_cells bs))) (data_lines bs) (lines_free bs) quiet_rows;
        few = omega (arith, rows_count, lines_few bs (columns_of bs) (width bs) (length bs) 0 (length (front bs) + 1) (omega arith) (omega arith) pass.quiet);
      }

  pub loads_table : log_table bs ≡ rows_table (columns_of bs) (rows_in bs)
  unfolding log_table
  loads_table = lines_rows (columns_of bs) (data_lines bs)

  -- A grid of as many rows and with the same table loads as the log does.
  pub copy_loads : (names : List (List ℕ)) (rows : List (List (List ℕ))) (ps : Columns) → Grid names rows ps → length rows ≡ length (data_lines bs)
      → rows_table ps rows ≡ log_table bs → LoadsAs (text_of (names ∷ rows)) bs table
  unfolding load_table
  copy_loads names rows ps g many same-table =
      let copy = grid_loads names rows ps g table (omega (arith, many, pass.room)) in
      let e = passes_loads bs table pass in (
        copy.0 ∙ ap (λ (k : ℕ). passed k) many ∙ sym e,
        copy.1 ∙ ap (λ (t : List ℕ). t ++ drop (length t) table) same-table ∙ ap (λ (a : Answer). after a (log_table bs) table) (sym e),
      )
