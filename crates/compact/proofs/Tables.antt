-- The table of a register's rows alone has the register's operations, renumbered from 0 on: so the code of the file's table is that of this one.
-- Assumes nothing.
use Prim.Native.Nat.{ℕ, ◌≤◌, ◌<◌}
use mathlib.Core.Path.{◌≡◌, refl, sym, ap, ◌∙◌}
use mathlib.Core.Logic.{◌⊎◌, inl, inr}
use mathlib.Core.Bool.{Bool, true, false}
use mathlib.Core.List.{List, map, Memᴰ as In}
use native.Mathlib.Omega.{arith}
use native.Mathlib.Nat.{eq-or-lt_of_le}
use borrow.Author.Tests.{ltb-true, ltb-false, lt-ltb, le-ltb}
use lib.Dec.{ltb, eqb}
use lib.ListN.{length, get_or}
use Rattle.lists.specs.Lists.{keep, up_to}
use Rattle.lists.proofs.Members.{in_keep, keep_all, keep_ext, map_ext}
use Rattle.lists.proofs.Maps.{in_map}
use Rattle.lists.proofs.Images.{map_twice, get_d_in, pairs_at}
use Rattle.lists.proofs.Pairs.{pairs_keep}
use Rattle.lists.proofs.Ranges.{in_below, from_rises, at_each}
use Rattle.history.specs.Table.{row_at, row_count, operation, op_at, bears, rows_of, history}
use Rattle.records.specs.Records.{begun, record_at, cells, table_of}
use Rattle.records.proofs.Blocks.{blocks, blocks_part, flat_places}
use Rattle.records.proofs.Records.{cells_row, length_table, count_table, table_row}
use Rattle.files.specs.Files.{Whole}
use Rattle.marks.specs.Marks.{answer_to, most_trials}
use Rattle.selection.specs.Selected.{is_of, records_of, register_table}
use Rattle.selection.proofs.Loaded.{length_register, register_few}
use Rattle.compact.specs.Renumbered.{renumbered, Keeps}
use Rattle.compact.proofs.Codes.{same_code}

module _ (bs : List ℕ) (register : ℕ) where
  abbrev rows : List ℕ
  rows = records_of bs register

  abbrev m : ℕ
  m = length rows

  -- the record of the register's j-th row
  abbrev nth : ℕ → ℕ
  nth j = get_or rows j 0

  abbrev t : List ℕ
  t = table_of bs

  abbrev u : List ℕ
  u = register_table bs register

  parts : u ≡ blocks (λ j. cells (record_at bs (nth j))) m
  unfolding register_table
  parts = sym (flat_places (λ n. cells (record_at bs n)) rows)

  count_part : row_count u ≡ m
  count_part = omega (arith, length_register bs register)

  part_row : (j : ℕ) → j < m → row_at u j ≡ record_at bs (nth j)
  part_row j l = cells_row u j (record_at bs (nth j)) (rw parts (blocks_part (λ j. cells (record_at bs (nth j))) 5 (λ i. refl) m j l))

  nth_in : (j : ℕ) → j < m → In (nth j) rows
  nth_in j l = get_d_in rows 0 j l

  nth_below : (j : ℕ) → j < m → nth j < begun bs
  unfolding records_of
  nth_below j l = in_below (begun bs) (in_keep (is_of bs register) (up_to (begun bs)) (nth_in j l)).0

  -- the register's rows in the file's table
  table_rows : rows_of t register ≡ rows
  unfolding rows_of records_of bears is_of
  table_rows =
      ap (λ n. keep (bears t register) (up_to n)) (count_table bs)
      ∙ keep_ext (bears t register) (is_of bs register) (up_to (begun bs)) (λ i l. ap (λ r. eqb r.register register) (table_row bs i (in_below (begun bs) l)))

  -- and in the table of its own
  part_rows : rows_of u register ≡ up_to m
  unfolding rows_of records_of bears is_of
  part_rows = ap (λ n. keep (bears u register) (up_to n)) count_part ∙ keep_all (bears u register) (up_to m) (λ j l. borne j (in_below m l))
    where
      borne : (j : ℕ) → j < m → bears u register j ≡ true
      borne j l = ap (λ r. eqb r.register register) (part_row j l) ∙ (in_keep (is_of bs register) (up_to (begun bs)) (nth_in j l)).1

  same_op : (j : ℕ) → j < m → op_at t (nth j) ≡ renumbered nth (op_at u j)
  unfolding op_at
  same_op j l = ap (λ r. operation r (nth j)) (table_row bs (nth j) (nth_below j l) ∙ sym (part_row j l))

  same_history : history t register ≡ map (renumbered nth) (history u register)
  unfolding history
  same_history =
      ap (map (op_at t)) (table_rows ∙ sym (at_each rows))
      ∙ map_twice (op_at t) nth (up_to m)
      ∙ map_ext (λ j. op_at t (nth j)) (λ j. renumbered nth (op_at u j)) (up_to m) (λ j l. same_op j (in_below m l))
      ∙ sym (map_twice (renumbered nth) (op_at u) (up_to m))
      ∙ ap (λ l. map (renumbered nth) (map (op_at u) l)) (sym part_rows)

  nth_rise : (i j : ℕ) → i < j → j < m → nth i < nth j
  unfolding records_of
  nth_rise i j h l = pairs_at 0 (pairs_keep (is_of bs register) (from_rises 0 (begun bs))) i j h l

  compared : (i j : ℕ) → i < m → j < m → ltb (nth i) (nth j) ≡ ltb i j
  compared i j k l = go (ltb i j) refl
    where
      back : (j ≡ i) ⊎ (j < i) → nth j ≤ nth i
      back (inl e) = rw e (omega arith)
      back (inr h) = omega (arith, nth_rise j i h k)

      go : (b : Bool) → ltb i j ≡ b → ltb (nth i) (nth j) ≡ b
      go true e = lt-ltb (nth i) (nth j) (nth_rise i j (ltb-true i j e) l)
      go false e = le-ltb (nth i) (nth j) (back (eq-or-lt_of_le (ltb-false i j e)))

  row_below : (i : ℕ) → In i (rows_of u register) → i < m
  row_below i l = in_below m (rw part_rows at l)

  keeps : Keeps nth (history u register)
  unfolding history op_at
  keeps a b i j =
      let x = in_map (op_at u) (rows_of u register) i in
      let y = in_map (op_at u) (rows_of u register) j in
      rw (x.2, y.2) (compared x.0 y.0 (row_below x.0 x.1) (row_below y.0 y.1))

  -- THE CODE OF THE WHOLE FILE'S TABLE is that of the register's rows alone.
  pub compact_code : Whole bs → (question : ℕ) → (answer_to t register question most_trials).code ≡ (answer_to u register question most_trials).code
  compact_code w question =
      same_code t u register question nth keeps same_history (omega (arith, length_table bs)) (omega (arith, count_table bs, w.few)) (omega (arith, length_register bs register)) (omega (arith, count_part, register_few bs register, w.few))
