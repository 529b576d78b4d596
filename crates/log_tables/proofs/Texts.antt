-- What loads is the text of its own grid, so that its copy with the columns as they are is the log itself.
-- Assumes nothing.
use Prim.Native.Nat.{ℕ, zero, suc, ◌+◌, ◌≤◌, ◌<◌}
use mathlib.Core.Path.{◌≡◌, refl, sym, ap, ◌∙◌}
use mathlib.Core.Bool.{Bool, true, false, cond, not}
use mathlib.Core.List.Memᴰ.{head as here}
use mathlib.Core.List.Memᴰ.{tail as there}
use mathlib.Core.List.{List, [], ◌∷◌, ◌++◌, map, flat_map, Memᴰ as In}
use native.Mathlib.Omega.{arith}
use borrow.Author.Tests.{ltb-true, ltb-false}
use lib.Dec.{ltb}
use lib.ListN.{length, drop, drop_of_length-le}
use Rattle.std.specs.Prelude.{Some, None}
use Rattle.lists.specs.Lists.{up_to}
use Rattle.history.specs.Answer.{Test}
use Rattle.history.proofs.Refusals.{NoFault, no_fault_left, no_fault_right}
use Rattle.parsing.specs.Numbers.{front, after}
use Rattle.cells.specs.Parts.{feed, Part, part, cells_of, lines_from}
use Rattle.cells.specs.Grids.{text_of, bytes_of, rearranged}
use Rattle.cells.proofs.Parting.{front_split, lines_none, lines_more}
use Rattle.cells.proofs.Grids.{each_cell}
use Rattle.cells.proofs.Joining.{joined_parts, line_split}
use Rattle.headers.specs.declared.Columns.{Columns}
use Rattle.headers.specs.Header.{header_cells, width, complete, named_in, sound_header, columns_of}
use Rattle.log_tables.specs.Logs.{line_tests, data_lines, load_answer}
use Rattle.log_tables.specs.Shuffled.{rows_in, grid_of, shuffled}
use Rattle.log_tables.proofs.Testing.{tests_cons}
use Rattle.log_tables.proofs.Grids.{loads_passes, names_wide, loads_grid}

-- the text of a line's cells is the line, and then that of the later lines' cells
text_cons : (l : Part) (rs : List (List (List ℕ))) → text_of (bytes_of (cells_of l) ∷ rs) ≡ l.bytes ++ (feed ∷ text_of rs)
unfolding text_of
text_cons l rs = ap (λ (t : List ℕ). t ++ (feed ∷ text_of rs)) (joined_parts 0 l.at l.bytes)

-- the text of the cells of some lines
abbrev text_lines : List Part → List ℕ
text_lines ls = text_of (map (λ l. bytes_of (cells_of l)) ls)

module _ (bs : List ℕ) (cs : Columns) (w : ℕ) where
  -- the tests of some lines
  abbrev tests_of : List Part → List Test
  tests_of ls = flat_map (line_tests bs cs w) ls

  -- a line that passes its tests ends in a line feed
  line_ends : (l : Part) → NoFault (line_tests bs cs w l) → l.at + length l.bytes < length bs
  unfolding line_tests
  line_ends l q = go (ltb (l.at + length l.bytes) (length bs)) refl q.1.0
    where
      go : (b : Bool) → ltb (l.at + length l.bytes) (length bs) ≡ b → cond (not b) (Some l.at) None ≡ None
          → l.at + length l.bytes < length bs
      go true e q = ltb-true (l.at + length l.bytes) (length bs) e
      go false e q = let z : ◌≡◌ {A = ℕ} 0 1 = cc in absurd (omega arith)

  -- where no line begins, no byte is left
  text_none : (n at : ℕ) → length bs ≤ at → text_lines (lines_from bs n at) ≡ drop at bs
  unfolding text_of
  text_none n at h = ap text_lines (lines_none bs n at h) ∙ sym (drop_of_length-le bs h)

  -- the line at an offset, where one begins, and those behind it
  abbrev line : ℕ → ℕ → Part
  line n at = part n at (front (drop at bs))

  abbrev behind : ℕ → ℕ → List Part
  behind n at = lines_from bs (n + 1) (at + length (front (drop at bs)) + 1)

  lines : (n at : ℕ) → at < length bs → lines_from bs n at ≡ line n at ∷ behind n at
  lines n at h = lines_more bs n at h (at + length (front (drop at bs))) refl

  text_more : (n at : ℕ) → at < length bs → NoFault (line_tests bs cs w (line n at))
      → text_lines (behind n at) ≡ drop (at + length (front (drop at bs)) + 1) bs → text_lines (lines_from bs n at) ≡ drop at bs
  text_more n at h q e =
      ap text_lines (lines n at h)
      ∙ text_cons (line n at) (map (λ l. bytes_of (cells_of l)) (behind n at))
      ∙ ap (λ (t : List ℕ). front (drop at bs) ++ (feed ∷ t)) e
      ∙ sym (line_split bs at (line_ends (line n at) q))

  -- The text from an offset on is that of the cells of its lines, where each of these passes its tests: at most `left` of its bytes are left.
  pub text_lines_lem : (left n at : ℕ) → length bs ≤ at + left → NoFault (flat_map (line_tests bs cs w) (lines_from bs n at))
      → text_of (map (λ l. bytes_of (cells_of l)) (lines_from bs n at)) ≡ drop at bs
  text_lines_lem zero n at f q = text_none n at (omega arith)
  text_lines_lem (suc left) n at f q = go (ltb at (length bs)) refl (text_lines_lem left (n + 1) (at + length (front (drop at bs)) + 1) (omega arith))
    where
      tests : at < length bs → NoFault (line_tests bs cs w (line n at) ++ tests_of (behind n at))
      tests h = tests_cons bs cs w (line n at) (behind n at) (rw (lines n at h) at q)

      go : (b : Bool) → ltb at (length bs) ≡ b
          → (NoFault (tests_of (behind n at)) → text_lines (behind n at) ≡ drop (at + length (front (drop at bs)) + 1) bs)
          → text_lines (lines_from bs n at) ≡ drop at bs
      go true e next =
          let h = ltb-true at (length bs) e in
          let here = no_fault_left (line_tests bs cs w (line n at)) (tests_of (behind n at)) (tests h) in
          let later = no_fault_right (line_tests bs cs w (line n at)) (tests_of (behind n at)) (tests h) in
          text_more n at h here (next later)
      go false e next = text_none n at (ltb-false at (length bs) e)

-- a map that keeps each element
map_kept : {A : Type 0} (f : A → A) (l : List A) → ((x : A) → In x l → f x ≡ x) → map f l ≡ l
map_kept f [] h = refl
map_kept f (x ∷ l) h = rw (h x (here refl)) (ap (λ m. x ∷ m) (map_kept f l (λ y m. h y (there m))))

-- a sound header line ends in a line feed
header_ends : (bs : List ℕ) → sound_header bs ≡ true → length (front bs) < length bs
unfolding sound_header
header_ends bs h = go (ltb (length (front bs)) (length bs)) refl h
  where
    go : (b : Bool) → ltb (length (front bs)) (length bs) ≡ b → cond b (complete (named_in bs)) false ≡ true → length (front bs) < length bs
    go true e q = ltb-true (length (front bs)) (length bs) e
    go false e q = let z : ◌≡◌ {A = ℕ} 0 1 = cc in absurd (omega arith)

-- The bytes of a log that loads are the text of its cells, line by line.
pub loads_text : (bs : List ℕ) → sound_header bs ≡ true → NoFault (flat_map (line_tests bs (columns_of bs) (width bs)) (data_lines bs))
    → text_of (grid_of bs) ≡ bs
unfolding header_cells data_lines after
loads_text bs h q =
    text_cons (part 0 0 (front bs)) (map (λ l. bytes_of (cells_of l)) (data_lines bs))
    ∙ ap (λ (t : List ℕ). front bs ++ (feed ∷ t)) (text_lines_lem bs (columns_of bs) (width bs) (length bs) 0 (length (front bs) + 1) (omega arith) q)
    ∙ sym (front_split bs (header_ends bs h))

-- A log that loads and whose columns keep their sequence is its own copy.
pub own_copy : (bs table : List ℕ) → (load_answer bs table).code ≡ 0 → shuffled (up_to (width bs)) bs ≡ bs
unfolding shuffled
own_copy bs table z =
    let p = loads_passes bs table z in
    let g = loads_grid bs table p in
    let names = bytes_of (header_cells bs) in
    let kept : (r : List (List ℕ)) → length r ≡ width bs → rearranged (up_to (width bs)) r ≡ r =
    λ r e. ap (λ (k : ℕ). rearranged (up_to k) r) (sym e) ∙ each_cell r in
    let rows : map (rearranged (up_to (width bs))) (rows_in bs) ≡ rows_in bs =
    map_kept (rearranged (up_to (width bs))) (rows_in bs) (λ r m. kept r ((g.readable r m).wide ∙ names_wide bs table p)) in
    ap (λ (r : List (List ℕ)). text_of (r ∷ map (rearranged (up_to (width bs))) (rows_in bs))) (kept names (names_wide bs table p))
    ∙ ap (λ (rs : List (List (List ℕ))). text_of (names ∷ rs)) rows
    ∙ loads_text bs p.sound p.quiet
