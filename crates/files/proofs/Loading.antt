-- What a caller knows of a table after a reading with code 0: the file's rows stand at its front.
-- Assumes nothing.
use Prim.Native.Nat.{ℕ, ◌*◌, ◌%◌, ◌≤◌}
use mathlib.Core.Path.{◌≡◌, sym, ap, ◌∙◌}
use mathlib.Core.List.{List, ◌++◌}
use native.Mathlib.Omega.{arith}
use lib.ListN.{length, take, drop}
use Rattle.lists.proofs.Stores.{front_is, front_long, front_in}
use Rattle.history.specs.declared.Answer.{Answer}
use Rattle.history.specs.Table.{largest_count, row_count}
use Rattle.records.specs.Records.{begun, table_of}
use Rattle.records.proofs.Records.{length_table, count_table}
use Rattle.files.specs.Files.{file_answer, read_answer, read_table}
use Rattle.files.proofs.Passing.{whole_read, read_whole, read_room}
use Rattle.files.proofs.Calls.{after_fresh}
use Rattle.files.proofs.Undo.{read_long}

-- a table of whole rows
pub table_whole : (bs : List ℕ) → length (table_of bs) % 5 ≡ 0
table_whole bs = omega (arith, length_table bs)

-- a table with a place for each of 1,024 rows is never too short
pub loaded_as : (bs table : List ℕ) (a : Answer) → a ≡ read_answer bs table → 5120 ≤ length table → a ≡ file_answer bs
loaded_as bs table a e h = e ∙ read_room bs table h

-- the answer a, and what lies in the table afterwards
module _ (bs table : List ℕ) (a : Answer) (loaded : List ℕ) (o : (a ≡ read_answer bs table) × (loaded ≡ read_table bs table)) (z : a.code ≡ 0) where
  zero : (read_answer bs table).code ≡ 0
  zero = sym (ap (λ x. x.code) o.0) ∙ z

  pub loaded_rows : a.rows ≡ begun bs
  loaded_rows = let w = read_whole bs table zero in ap (λ x. x.rows) (o.0 ∙ whole_read bs table w.0 w.1)

  pub loaded_few : row_count (table_of bs) ≤ largest_count
  loaded_few = omega (arith, count_table bs, (read_long bs table zero).1)

  pub loaded_small : a.rows ≤ largest_count
  loaded_small = omega (arith, loaded_rows, (read_long bs table zero).1)

  long : length (table_of bs) ≡ a.rows * 5
  long = omega (arith, length_table bs, loaded_rows)

  is_loaded : loaded ≡ table_of bs ++ drop (length (table_of bs)) table
  unfolding read_table
  is_loaded = o.1 ∙ after_fresh (read_answer bs table) (table_of bs) table zero

  pub loaded_front : take (a.rows * 5) loaded ≡ table_of bs
  loaded_front = front_is (table_of bs) _ loaded (a.rows * 5) long is_loaded

  pub loaded_long : a.rows * 5 ≡ length (take (a.rows * 5) loaded)
  loaded_long = front_long (table_of bs) _ loaded (a.rows * 5) long is_loaded

  pub loaded_in : a.rows * 5 ≤ length loaded
  loaded_in = front_in (table_of bs) _ loaded (a.rows * 5) long is_loaded
