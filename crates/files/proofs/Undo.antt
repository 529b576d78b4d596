-- Reading what was written gives the table, and writing what was read gives the bytes; and what a caller of the reading relies on.
-- Assumes nothing.
use Prim.Native.Nat.{ℕ, ◌+◌, ◌*◌, ◌≤◌, ◌<◌}
use mathlib.Core.Path.{◌≡◌, refl, sym, ap, ◌∙◌}
use mathlib.Core.Logic.{◌≢◌}
use mathlib.Core.Bool.{Bool, true, false, cond, not, ◌&&◌}
use mathlib.Core.List.{List, ◌++◌}
use native.Mathlib.Omega.{arith}
use borrow.Author.Tests.{not-false, eq-eqb, eqb-true}
use lib.Dec.{eqb}
use lib.ListN.{length, drop}
use Rattle.lists.proofs.Tests.{and_true}
use Rattle.history.specs.declared.Row.{Row}
use Rattle.history.specs.declared.Op.{Op}
use Rattle.history.specs.Table.{largest_count, row_at, row_count, operation, op_at, is_opening}
use Rattle.history.specs.Answer.{number, passed}
use Rattle.history.specs.declared.Code.TheVariants.{ShortList}
use Rattle.history.specs.Screen.{wrong_kind, stray_opening}
use Rattle.records.specs.Records.{field, Bytes, Words, begun, offset, record_from, record_at, cells, table_of, file_of}
use Rattle.records.proofs.Blocks.{blocks_whole}
use Rattle.records.proofs.Records.{Fitting, row_cells, length_table, count_table, table_row, file_again, count_file, file_row, file_stands}
use Rattle.files.specs.Files.{Whole, file_answer, file_tests, read_answer, read_table, write_answer, write_bytes}
use Rattle.files.proofs.Meeting.{met_code}
use Rattle.files.proofs.Calls.{after_fresh, code_of}
use Rattle.files.proofs.Passing.{Tabular, kind_small, file_codes, write_tabular, tabular_write, whole_read, read_whole, read_room}

-- A row read is no opening with another stamp than 0, whatever the bytes.
read_stamps : (bs : List ℕ) (at i : ℕ) → stray_opening (operation (record_from bs at) i) ≡ false
unfolding stray_opening is_opening record_from
read_stamps bs at i = go (eqb (field bs (at + 2) 2) 3)
  where
    go : (b : Bool) → (b && not (eqb (cond b 0 (field bs (at + 20) 8)) 0 && eqb (cond b 0 (field bs (at + 28) 8)) 0)) ≡ false
    go true = refl
    go false = refl

-- A table that passes, and its file.
module _ (t : List ℕ) (words : Words t) (w : Tabular t) where
  no_stamps : (o : Op) → stray_opening o ≡ false → o.kind ≡ 3 → (o.start ≡ 0) × (o.finish ≡ 0)
  unfolding stray_opening is_opening
  no_stamps o e k =
      let both : (eqb o.start 0 && eqb o.finish 0) ≡ true = not-false _ (rw (eq-eqb o.kind 3 k) at e) in
      let z = and_true (eqb o.start 0) (eqb o.finish 0) both in
      (eqb-true o.start 0 z.0, eqb-true o.finish 0 z.1)

  fitting : (i : ℕ) → i < row_count t → Fitting (row_at t i)
  unfolding op_at
  fitting i h =
      record {
        register = words (i * 5 + 0);
        kind = kind_small (op_at t i) (w.kinds i h);
        value = words (i * 5 + 2);
        start = words (i * 5 + 3);
        finish = words (i * 5 + 4);
        opening = no_stamps (op_at t i) (w.stamps i h);
      }

  count : begun (file_of t) ≡ row_count t
  count = count_file t w.few fitting

  again : (i : ℕ) → i < row_count t → record_at (file_of t) i ≡ row_at t i
  again i h = file_row t w.few fitting i h

  written_whole : Whole (file_of t)
  unfolding op_at
  written_whole =
      record {
        few = omega (arith, count, w.few);
        stands = file_stands t w.few fitting;
        kinds = λ i h. let l : i < row_count t = omega (arith, count) in ap (λ (r : Row). wrong_kind (operation r i)) (again i l) ∙ w.kinds i l;
      }

  pub table_again : table_of (file_of t) ≡ t
  unfolding table_of
  table_again =
      blocks_whole (λ k. cells (record_at (file_of t) k)) 5 (begun (file_of t)) t (w.size ∙ ap (λ (k : ℕ). k * 5) (sym count))
      (λ k h. let l : k < row_count t = omega (arith, count) in row_cells t k (omega (arith, w.size)) ∙ ap cells (sym (again k l)))

-- What was written and is read again is the table.
pub read_written : (t out table : List ℕ) → Words t → (write_answer t out).code ≡ 0 → length t ≤ length table →
    (read_answer (file_of t) table ≡ passed (row_count t)) × (read_table (file_of t) table ≡ t ++ drop (length t) table)
unfolding read_table
read_written t out table words z h =
    let w = (write_tabular t out z).0 in
    let n = count t words w in
    let a : read_answer (file_of t) table ≡ passed (row_count t) =
    whole_read (file_of t) table (written_whole t words w) (omega (arith, n, w.size)) ∙ ap passed n in
    (a, after_fresh (read_answer (file_of t) table) (table_of (file_of t)) table (code_of a refl) ∙ ap (λ (l : List ℕ). l ++ drop (length l) table) (table_again t words w))

-- A file that passes, and its table.
module _ (bs : List ℕ) (bytes : Bytes bs) (w : Whole bs) where
  read_tabular : Tabular (table_of bs)
  unfolding op_at
  read_tabular =
      let n = count_table bs in
      let row : (i : ℕ) → i < row_count (table_of bs) → row_at (table_of bs) i ≡ record_at bs i = λ i h. table_row bs i (omega arith) in
      record {
        size = length_table bs ∙ ap (λ (k : ℕ). k * 5) (sym n);
        few = omega (arith, n, w.few);
        kinds = λ i h. ap (λ (r : Row). wrong_kind (operation r i)) (row i h) ∙ w.kinds i (omega arith);
        stamps = λ i h. ap (λ (r : Row). stray_opening (operation r i)) (row i h) ∙ read_stamps bs (offset bs i) i;
      }

  pub bytes_again : file_of (table_of bs) ≡ bs
  bytes_again = file_again bs bytes w.few w.stands

-- What was read and is written again is the bytes.
pub written_read : (bs table out : List ℕ) → Bytes bs → (read_answer bs table).code ≡ 0 → length bs ≤ length out →
    (write_answer (table_of bs) out ≡ passed (begun bs)) × (write_bytes (table_of bs) out ≡ bs ++ drop (length bs) out)
unfolding write_bytes
written_read bs table out bytes z h =
    let w = (read_whole bs table z).0 in
    let n = count_table bs in
    let a : write_answer (table_of bs) out ≡ passed (begun bs) =
    tabular_write (table_of bs) out (read_tabular bs bytes w) (omega (arith, ap length (bytes_again bs bytes w))) ∙ ap passed n in
    (a, after_fresh (write_answer (table_of bs) out) (file_of (table_of bs)) out (code_of a refl) ∙ ap (λ (l : List ℕ). l ++ drop (length l) out) (bytes_again bs bytes w))

-- What code 0 says of the table's length.
pub read_long : (bs table : List ℕ) → (read_answer bs table).code ≡ 0 → (length (table_of bs) ≡ begun bs * 5) × (begun bs ≤ largest_count) × (begun bs * 5 ≤ length table)
read_long bs table z = let w = read_whole bs table z in (length_table bs, w.0.few, w.1)

-- A file's own tests never give the code of a short list.
pub file_fits : (bs : List ℕ) → (file_answer bs).code ≢ number ShortList
file_fits bs =
    met_code (λ c. c ≢ 10) (file_tests bs) (passed (begun bs)) (file_codes (λ c. c ≢ 10) (λ e. omega arith) (λ e. omega arith) (λ e. omega arith) bs) (λ e. omega arith)

-- A table of 5,120 places is never too short, and its contents and length do not matter.
pub read_fits : (bs table : List ℕ) → 5120 ≤ length table → (read_answer bs table).code ≢ number ShortList
read_fits bs table h = rw (read_room bs table h) (file_fits bs)

pub read_same : (bs table other : List ℕ) → 5120 ≤ length table → 5120 ≤ length other → read_answer bs table ≡ read_answer bs other
read_same bs table other h k = read_room bs table h ∙ sym (read_room bs other k)
