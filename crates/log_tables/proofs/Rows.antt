-- Rows of cells that load, and the lines of a log that loads.
-- Assumes nothing.
use Prim.Native.Nat.{ℕ, zero, suc, ◌+◌, ◌≤◌, ◌<◌}
use mathlib.Core.Path.{◌≡◌, refl, sym, ap, ◌∙◌}
use mathlib.Core.Bool.{Bool, true, false, cond, not}
use mathlib.Core.List.Memᴰ.{head as here}
use mathlib.Core.List.Memᴰ.{tail as there}
use mathlib.Core.List.{List, [], ◌∷◌, ◌++◌, map, flat_map, Memᴰ as In}
use native.Mathlib.Omega.{arith}
use borrow.Author.Tests.{eqb-true, ltb-true, ltb-false}
use lib.Dec.{eqb, ltb}
use lib.ListN.{length, get_or, drop, length-map}
use Rattle.std.specs.Prelude.{Some, None}
use Rattle.lists.specs.Lists.{up_to, first}
use Rattle.lists.proofs.Members.{in_keep}
use Rattle.lists.proofs.Maps.{map_in}
use Rattle.lists.proofs.Ranges.{below_in, in_below}
use Rattle.history.specs.declared.Row.{Row}
use Rattle.history.specs.Table.{largest_count}
use Rattle.history.proofs.Refusals.{NoFault, no_fault_left, no_fault_right}
use Rattle.records.specs.Records.{cells}
use Rattle.parsing.specs.Numbers.{front, is_number}
use Rattle.cells.specs.Parts.{comma, feed, Part, part, cells_of, lines_from}
use Rattle.cells.specs.Grids.{bytes_of, laid, Free}
use Rattle.cells.proofs.Parting.{lines_none, lines_more}
use Rattle.cells.proofs.Grids.{parts_laid, parts_free, parts_keep, each_cell}
use Rattle.headers.specs.declared.Columns.{Columns}
use Rattle.log_tables.specs.Logs.{said_in, unreadable, row_of, data_lines, line_tests, rows_of}
use Rattle.log_tables.specs.Grids.{Readable, rows_table}
use Rattle.log_tables.proofs.Testing.{line_few, tests_cons}
use Rattle.log_tables.proofs.Places.{placed_same, Places, said_quiet, quiet_said}

-- Cells laid out from an offset on, in the columns ps: what is told of them, and what they are as a row.
module _ (ps : Columns) (w : ℕ) where
  same_places : Places ps ps 0 (up_to w)
  same_places =
      record {
        register = placed_same ps.register 0 w;
        kind = placed_same ps.kind 0 w;
        value = placed_same ps.value 0 w;
        start = placed_same ps.start 0 w;
        finish = placed_same ps.finish 0 w;
      }

  module _ (r : List (List ℕ)) (wide : length r ≡ w) (at : ℕ) where
    in_places : laid 0 at r ≡ laid 0 at (map (λ j. get_or r j []) (up_to w))
    in_places = ap (laid 0 at) (sym (each_cell r) ∙ ap (λ (k : ℕ). map (λ j. get_or r j []) (up_to k)) wide)

    pub told_said : first (λ p. p.at) (unreadable ps) (laid 0 at r) ≡ None → (j : ℕ) → j < w → is_number (said_in ps j (get_or r j [])) ≡ true
    told_said e j h = quiet_said ps ps (λ j. get_or r j []) 0 at (up_to w) same_places (ap (first (λ p. p.at) (unreadable ps)) (sym in_places) ∙ e) j (below_in w h)

    pub said_told : ((j : ℕ) → j < w → is_number (said_in ps j (get_or r j [])) ≡ true) → first (λ p. p.at) (unreadable ps) (laid 0 at r) ≡ None
    said_told s = ap (first (λ p. p.at) (unreadable ps)) in_places ∙ said_quiet ps ps (λ j. get_or r j []) 0 at (up_to w) same_places (λ j m. s j (in_below w m))

-- The lines of a log that loads.
module _ (bs : List ℕ) (ps : Columns) (w : ℕ) where
  module _ (l : Part) (quiet : NoFault (line_tests bs ps w l)) where
    line_wide : length (cells_of l) ≡ w
    unfolding line_tests
    line_wide = go (eqb (length (cells_of l)) w) refl quiet.1.1.0
      where
        go : (b : Bool) → eqb (length (cells_of l)) w ≡ b → cond (not b) (Some l.at) None ≡ None → length (cells_of l) ≡ w
        go true e q = eqb-true (length (cells_of l)) w e
        go false e q = let z : ◌≡◌ {A = ℕ} 0 1 = cc in absurd (omega arith)

    wide : length (bytes_of (cells_of l)) ≡ w
    wide = length-map (cells_of l) (λ p. p.bytes) ∙ line_wide

    line_laid : cells_of l ≡ laid 0 l.at (bytes_of (cells_of l))
    line_laid = parts_laid comma 0 l.at l.bytes

    line_readable : Free feed l.bytes → Readable ps w (bytes_of (cells_of l))
    unfolding line_tests
    line_readable free =
        record {
          wide = wide;
          said = told_said ps w (bytes_of (cells_of l)) wide l.at (ap (first (λ p. p.at) (unreadable ps)) (sym line_laid) ∙ quiet.1.1.1.0);
          commas = parts_free comma 0 l.at l.bytes;
          feeds = parts_keep feed comma 0 l.at l.bytes free;
        }

  pub lines_readable : (ls : List Part) → ((l : Part) → In l ls → Free feed l.bytes) → NoFault (flat_map (line_tests bs ps w) ls)
      → (r : List (List ℕ)) → In r (map (λ l. bytes_of (cells_of l)) ls) → Readable ps w r
  unfolding flat_map
  lines_readable (l ∷ ls) free quiet r (here q) = rw q (line_readable l (no_fault_left (line_tests bs ps w l) (flat_map (line_tests bs ps w) ls) quiet) (free l (here refl)))
  lines_readable (l ∷ ls) free quiet r (there m) =
      lines_readable ls (λ x i. free x (there i)) (no_fault_right (line_tests bs ps w l) (flat_map (line_tests bs ps w) ls) quiet) r m
  lines_readable [] free quiet r x3 = elim x3 [ ]

pub lines_rows : (ps : Columns) (ls : List Part) → rows_of ps ls ≡ rows_table ps (map (λ l. bytes_of (cells_of l)) ls)
unfolding flat_map
lines_rows ps [] = refl
lines_rows ps (l ∷ ls) = ap (λ (t : List ℕ). cells (row_of ps (bytes_of (cells_of l))) ++ t) (lines_rows ps ls)

-- rows that are changed and say the same have the same table
pub rows_same : (ps qs : Columns) (f : List (List ℕ) → List (List ℕ)) (rows : List (List (List ℕ)))
    → ((r : List (List ℕ)) → In r rows → row_of qs (f r) ≡ row_of ps r) → rows_table qs (map f rows) ≡ rows_table ps rows
unfolding flat_map
rows_same ps qs f [] h = refl
rows_same ps qs f (r ∷ rows) h =
    ap (λ (x : Row). cells x ++ rows_table qs (map f rows)) (h r (here refl))
    ∙ ap (λ (t : List ℕ). cells (row_of ps r) ++ t) (rows_same ps qs f rows (λ x m. h x (there m)))

-- lines that pass test 2 are few
module _ (bs : List ℕ) (ps : Columns) (w : ℕ) where
  pub lines_few : (left n at : ℕ) → length bs ≤ at + left → n ≤ largest_count → NoFault (flat_map (line_tests bs ps w) (lines_from bs n at))
      → n + length (lines_from bs n at) ≤ largest_count
  lines_few zero n at f g q = rw (lines_none bs n at (omega arith)) (omega arith)
  lines_few (suc left) n at f g q = go (ltb at (length bs)) refl (lines_few left)
    where
      line : at < length bs → lines_from bs n at ≡ part n at (front (drop at bs)) ∷ lines_from bs (n + 1) (at + length (front (drop at bs)) + 1)
      line h = lines_more bs n at h (at + length (front (drop at bs))) refl

      tests : at < length bs → NoFault (line_tests bs ps w (part n at (front (drop at bs))) ++ flat_map (line_tests bs ps w) (lines_from bs (n + 1) (at + length (front (drop at bs)) + 1)))
      tests h = tests_cons bs ps w _ _ (rw (line h) at q)

      go : (b : Bool) → ltb at (length bs) ≡ b
          → ((n at : ℕ) → length bs ≤ at + left → n ≤ largest_count → NoFault (flat_map (line_tests bs ps w) (lines_from bs n at)) → n + length (lines_from bs n at) ≤ largest_count)
          → n + length (lines_from bs n at) ≤ largest_count
      go true e next =
          let h = ltb-true at (length bs) e in
          let here-few = line_few bs ps w (part n at (front (drop at bs))) (no_fault_left (line_tests bs ps w (part n at (front (drop at bs)))) (flat_map (line_tests bs ps w) (lines_from bs (n + 1) (at + length (front (drop at bs)) + 1))) (tests h)) in
          let more-few = next (n + 1) (at + length (front (drop at bs)) + 1) (omega arith) (omega arith) (no_fault_right (line_tests bs ps w (part n at (front (drop at bs)))) (flat_map (line_tests bs ps w) (lines_from bs (n + 1) (at + length (front (drop at bs)) + 1))) (tests h)) in
          rw (line h) (omega arith)
      go false e next = rw (lines_none bs n at (ltb-false at (length bs) e)) (omega arith)

pub lines_free : (bs : List ℕ) (l : Part) → In l (data_lines bs) → Free feed l.bytes
unfolding data_lines lines_from
lines_free bs l m =
    parts_free feed 0 (length (front bs) + 1) (drop (length (front bs) + 1) bs) l.bytes (map_in (λ (p : Part). p.bytes) (in_keep _ _ m).0)
