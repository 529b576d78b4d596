-- A stamp's clock text in a start or finish cell is loaded as the stamp.
-- Assumes nothing.
use Prim.Native.Nat.{ℕ, zero, suc, ◌+◌, ◌*◌, ◌≤◌, ◌<◌}
use mathlib.Core.Path.{◌≡◌, refl, sym, ap, ◌∙◌}
use mathlib.Core.Logic.{◌≢◌}
use mathlib.Core.Bool.{Bool, true, false, cond}
use mathlib.Core.List.{List, [], ◌∷◌, ◌++◌, flat_map}
use native.Mathlib.Omega.{arith}
use borrow.Author.Tests.{eq-eqb, ne_eqb, eqb-true}
use lib.Dec.{eqb}
use lib.ListN.{length, get_or, drop}
use Rattle.history.specs.declared.Answer.{Answer}
use Rattle.history.specs.Table.{largest_stamp, cell}
use Rattle.files.proofs.Calls.{code_of}
use Rattle.clock.specs.Clock.{clock_of, stamp_in}
use Rattle.clock.proofs.Forms.{stamp_text}
use Rattle.cells.specs.Parts.{same}
use Rattle.cells.specs.Grids.{laid, bytes_of}
use Rattle.headers.specs.declared.Column.TheVariants.{Missing, Only}
use Rattle.headers.specs.declared.Columns.{Columns}
use Rattle.headers.specs.Header.{register_name, kind_name, value_name, start_name, finish_name, column_from, header_cells, columns_of}
use Rattle.log_tables.specs.Logs.{said_in, amount, row_of, log_table, data_lines, Loads}
use Rattle.log_tables.specs.Grids.{NamesIn, rows_table}
use Rattle.log_tables.specs.Shuffled.{rows_in}
use Rattle.log_tables.specs.Stamps.{line_cell, LoadsStamps}
use Rattle.log_tables.proofs.Places.{placed_named}
use Rattle.log_tables.proofs.Grids.{loads_passes, loads_grid, loads_table, rows_count}
use Rattle.log_tables.proofs.Room.{is_loaded}

same_is : (x y : List ℕ) → same x y ≡ true → x ≡ y
unfolding same
same_is [] [] e = refl
same_is [] (b ∷ y) e = let z : ◌≡◌ {A = ℕ} 0 1 = cc in absurd (omega arith)
same_is (a ∷ x) [] e = let z : ◌≡◌ {A = ℕ} 0 1 = cc in absurd (omega arith)
same_is (a ∷ x) (b ∷ y) e = go (eqb a b) refl e (same_is x y)
  where
    go : (d : Bool) → eqb a b ≡ d → cond d (same x y) false ≡ true → (same x y ≡ true → x ≡ y) → a ∷ x ≡ b ∷ y
    go true f e next = rw (eqb-true a b f) (ap (λ (l : List ℕ). b ∷ l) (next e))
    go false f e next = let z : ◌≡◌ {A = ℕ} 0 1 = cc in absurd (omega arith)

-- different names stand in different columns
module _ (names : List (List ℕ)) where
  -- a name stands once, in column p
  abbrev pub Stands : List ℕ → ℕ → Type 0
  Stands m p = column_from m Missing (laid 0 0 names) ≡ Only p

  name_at : (m : List ℕ) (p : ℕ) → Stands m p → get_or names p [] ≡ m
  name_at m p e =
      let g = placed_named m p 0 0 names e in
      same_is (get_or names p []) m (g.2 p (omega (arith, g.1)) ∙ eq-eqb (0 + p) p (omega arith))

  apart : (m n : List ℕ) (p q : ℕ) → Stands m p → Stands n q → get_or m 0 0 ≢ get_or n 0 0 → eqb p q ≡ false
  apart m n p q e f d =
      ne_eqb p q (λ z. d (ap (λ (l : List ℕ). get_or l 0 0) (sym (name_at m p e) ∙ ap (λ (k : ℕ). get_or names k []) z ∙ name_at n q f)))

  module _ (ps : Columns) (g : NamesIn names ps) (t : List ℕ) where
    pub said_start : said_in ps ps.start t ≡ stamp_in t
    unfolding said_in
    said_start =
        let kind = apart start_name kind_name ps.start ps.kind g.start g.kind (λ z. omega arith) in
        let register = apart start_name register_name ps.start ps.register g.start g.register (λ z. omega arith) in
        let value = apart start_name value_name ps.start ps.value g.start g.value (λ z. omega arith) in
        rw (kind, register, value, eq-eqb ps.start ps.start refl)

    pub said_finish : said_in ps ps.finish t ≡ stamp_in t
    unfolding said_in
    said_finish =
        let kind = apart finish_name kind_name ps.finish ps.kind g.finish g.kind (λ z. omega arith) in
        let register = apart finish_name register_name ps.finish ps.register g.finish g.register (λ z. omega arith) in
        let value = apart finish_name value_name ps.finish ps.value g.finish g.value (λ z. omega arith) in
        let start = apart finish_name start_name ps.finish ps.start g.finish g.start (λ z. omega arith) in
        rw (kind, register, value, start, eq-eqb ps.finish ps.finish refl)

-- the stamps of a row in the table
table_stamps : (ps : Columns) (rest : List ℕ) (rows : List (List (List ℕ))) (i : ℕ) → i < length rows
    → (cell (rows_table ps rows ++ rest) i 3 ≡ (row_of ps (get_or rows i [])).start) × (cell (rows_table ps rows ++ rest) i 4 ≡ (row_of ps (get_or rows i [])).finish)
unfolding flat_map
table_stamps ps rest [] i h = absurd (omega arith)
table_stamps ps rest (r ∷ rows) zero h = (refl, refl)
table_stamps ps rest (r ∷ rows) (suc i) h =
    let n = table_stamps ps rest rows i (omega arith) in
    let a : suc i * 5 + 3 ≡ suc (suc (suc (suc (suc (i * 5 + 3))))) = omega arith in
    let b : suc i * 5 + 4 ≡ suc (suc (suc (suc (suc (i * 5 + 4))))) = omega arith in
    (rw a n.0, rw b n.1)

-- what a cell is loaded as that says a stamp as clock time
amount_text : (t : List ℕ) (s : ℕ) → s ≤ largest_stamp → t ≡ clock_of s → amount (stamp_in t) ≡ s
unfolding amount
amount_text t s small e = ap amount (ap stamp_in e ∙ stamp_text s small)

-- In a log that loads, the clock texts in start and finish cells are loaded as their stamps: of the answer and the table that a call leaves.
pub stamps_load : (bs table : List ℕ) (a : Answer) (left : List ℕ) → Loads bs table a left → a.code ≡ 0 → LoadsStamps bs left
stamps_load bs table a left o z =
    let p = loads_passes bs table (code_of (sym o.0) z) in
    let names = bytes_of (header_cells bs) in
    let ps = columns_of bs in
    let named = (loads_grid bs table p).named in
    let at : left ≡ rows_table ps (rows_in bs) ++ drop (length (log_table bs)) table =
    is_loaded bs table a left o z ∙ ap (λ (l : List ℕ). l ++ drop (length (log_table bs)) table) (loads_table bs table p) in
    let stamps : (i : ℕ) → i < length (data_lines bs) → (cell left i 3 ≡ (row_of ps (get_or (rows_in bs) i [])).start) × (cell left i 4 ≡ (row_of ps (get_or (rows_in bs) i [])).finish) =
    λ i h. rw at (table_stamps ps (drop (length (log_table bs)) table) (rows_in bs) i (omega (arith, rows_count bs table p))) in
    record {
      start =
          λ i s h small e.
          (stamps i h).0 ∙ ap amount (said_start names ps named (line_cell bs i ps.start)) ∙ amount_text (line_cell bs i ps.start) s small e;
      finish =
          λ i s h small e.
          (stamps i h).1 ∙ ap amount (said_finish names ps named (line_cell bs i ps.finish)) ∙ amount_text (line_cell bs i ps.finish) s small e;
    }
