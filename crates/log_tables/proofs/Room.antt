-- What a caller knows after a loading into a table with a place for each of 1,024 rows: the log's rows stand at its front.
-- Assumes nothing.
use Prim.Native.Nat.{ℕ, ◌+◌, ◌*◌, ◌%◌, ◌≤◌}
use mathlib.Core.Path.{◌≡◌, refl, sym, ap, ◌∙◌}
use mathlib.Core.Bool.{Bool, true, false}
use mathlib.Core.List.{List, [], ◌∷◌, ◌++◌, flat_map}
use native.Mathlib.Omega.{arith}
use borrow.Author.Tests.{eqb-true, eqb-false, le-ltb}
use lib.Dec.{eqb}
use lib.ListN.{length, take, drop}
use Rattle.lists.proofs.Stores.{front_is, front_long, front_in}
use Rattle.history.specs.declared.Answer.{Answer}
use Rattle.history.specs.Table.{largest_count, row_count}
use Rattle.history.specs.Answer.{Test, passed}
use Rattle.history.proofs.Refusals.{NoFault, Coded, code_no_fault, no_fault_answer, if_not, met_stop, met_on}
use Rattle.files.specs.Files.{room_test}
use Rattle.files.proofs.Calls.{after_fresh, code_of}
use Rattle.parsing.specs.Numbers.{front}
use Rattle.headers.specs.Header.{width, columns_of}
use Rattle.log_tables.specs.Logs.{data_lines, line_tests, log_tests, log_table, log_answer, load_tests, load_answer, load_table}
use Rattle.log_tables.proofs.Testing.{length_rows, lines_coded}
use Rattle.log_tables.proofs.Rows.{lines_few}
use Rattle.log_tables.proofs.Grids.{loads_passes, passes_loads}

module _ (bs : List ℕ) where
  log_coded : Coded (log_tests bs)
  unfolding log_tests
  log_coded = (λ z. omega arith, lines_coded bs (columns_of bs) (width bs) (data_lines bs))

  quiet_few : NoFault (flat_map (line_tests bs (columns_of bs) (width bs)) (data_lines bs)) → length (data_lines bs) ≤ largest_count
  unfolding data_lines
  quiet_few q = omega (arith, lines_few bs (columns_of bs) (width bs) (length bs) 0 (length (front bs) + 1) (omega arith) (omega arith) q)

  -- a table with a place for each of 1,024 rows is never too short
  load_room : (table : List ℕ) → 5120 ≤ length table → load_answer bs table ≡ log_answer bs
  unfolding load_answer load_tests log_tests
  load_room table h = go (eqb (log_answer bs).code 0) refl
    where
      n : ℕ
      n = length (data_lines bs)

      room : Test
      room = room_test (n * 5) (length table)

      go : (b : Bool) → eqb (log_answer bs).code 0 ≡ b → load_answer bs table ≡ log_answer bs
      go true e =
          let z = eqb-true (log_answer bs).code 0 e in
          let q = code_no_fault (log_tests bs) log_coded (passed n) z in
          met_on (log_tests bs) (room ∷ []) (passed n) log_coded z
          ∙ no_fault_answer (room ∷ []) (passed n) (if_not _ (le-ltb (length table) (n * 5) (omega (arith, quiet_few q.1))), tt)
          ∙ sym (no_fault_answer (log_tests bs) (passed n) q)
      go false e = met_stop (log_tests bs) (room ∷ []) (passed n) refl (eqb-false (log_answer bs).code 0 e)

  pub loaded_as : (table : List ℕ) (a : Answer) → a ≡ load_answer bs table → 5120 ≤ length table → a ≡ log_answer bs
  loaded_as table a e h = e ∙ load_room table h

  -- a table of whole rows
  table_long : length (log_table bs) ≡ length (data_lines bs) * 5
  unfolding log_table
  table_long = length_rows (columns_of bs) (data_lines bs)

  pub table_whole : length (log_table bs) % 5 ≡ 0
  table_whole = omega (arith, table_long)

-- the answer a, and what lies in the table afterwards
module _ (bs table : List ℕ) (a : Answer) (loaded : List ℕ) (o : (a ≡ load_answer bs table) × (loaded ≡ load_table bs table)) (z : a.code ≡ 0) where
  zero : (load_answer bs table).code ≡ 0
  zero = code_of (sym o.0) z

  loaded_rows : a.rows ≡ length (data_lines bs)
  loaded_rows = ap (λ (x : Answer). x.rows) (o.0 ∙ passes_loads bs table (loads_passes bs table zero))

  few : length (data_lines bs) ≤ largest_count
  few = quiet_few bs (loads_passes bs table zero).quiet

  pub loaded_few : row_count (log_table bs) ≤ largest_count
  loaded_few = omega (arith, table_long bs, few)

  pub loaded_small : a.rows ≤ largest_count
  loaded_small = omega (arith, loaded_rows, few)

  long : length (log_table bs) ≡ a.rows * 5
  long = omega (arith, table_long bs, loaded_rows)

  pub is_loaded : loaded ≡ log_table bs ++ drop (length (log_table bs)) table
  unfolding load_table
  is_loaded = o.1 ∙ after_fresh (load_answer bs table) (log_table bs) table zero

  pub loaded_front : take (a.rows * 5) loaded ≡ log_table bs
  loaded_front = front_is (log_table bs) _ loaded (a.rows * 5) long is_loaded

  pub loaded_long : a.rows * 5 ≡ length (take (a.rows * 5) loaded)
  loaded_long = front_long (log_table bs) _ loaded (a.rows * 5) long is_loaded

  pub loaded_in : a.rows * 5 ≤ length loaded
  loaded_in = front_in (log_table bs) _ loaded (a.rows * 5) long is_loaded
