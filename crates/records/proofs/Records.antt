-- A record's bytes and its row, each from the other; a table's rows, and a file's records.
-- Assumes nothing.
use Prim.Native.Nat.{ℕ, zero, suc, ◌+◌, ◌*◌, ◌^◌, ◌≤◌, ◌<◌}
use mathlib.Core.Path.{◌≡◌, refl, sym, ap, ◌∙◌}
use mathlib.Core.Bool.{Bool, true, false, cond}
use mathlib.Core.List.Memᴰ.{head as here}
use mathlib.Core.List.Memᴰ.{tail as there}
use mathlib.Core.List.{List, [], ◌∷◌, ◌++◌, map, flat_map, append-nil, Memᴰ as In}
use native.Mathlib.Nat.{add-zero, zero-add}
use native.Mathlib.Omega.{arith}
use borrow.Author.Tests.{eqb-true, ltb-true, ltb-false}
use lib.Dec.{ltb, eqb}
use lib.ListN.{length, length-map, get_or, take, drop, length-append, length-drop, take-append-drop, drop_of_length-le}
use lib.Seq.{get_or-take, get_or-drop, take_at, drop_at, take-add, drop-drop}
use Rattle.lists.specs.Lists.{from, up_to}
use Rattle.lists.proofs.Maps.{in_map}
use Rattle.lists.proofs.Images.{get_d_map, get_d_in, in_at}
use Rattle.lists.proofs.Ranges.{in_below, from_length, from_at}
use Rattle.lists.proofs.Counts.{some_length}
use Rattle.history.specs.declared.Row.{Row}
use Rattle.history.specs.Table.{largest_count, row_at, row_count}
use Rattle.records.specs.Records.{little_endian, value_of, field, Bytes, body_length, record_length, next, offsets_from, offsets, begun, offset, record_from, record_at, record_of, Stands, cells, table_of, file_of}
use Rattle.records.proofs.Numbers.{value_bytes, field_bytes, part_list}
use Rattle.records.proofs.Blocks.{part_part, flat_map_lem, flat_ext, flat_places, length_blocks, blocks_part}
use Rattle.records.proofs.Offsets.{offsets_more, offsets_end}

-- how long a record is, by its kind
pub least_length : (kind : ℕ) → 20 ≤ record_length kind
least_length kind = go (eqb kind 3)
  where
    go : (b : Bool) → 20 ≤ 2 + cond b 18 34
    go true = omega arith
    go false = omega arith

pub most_length : (kind : ℕ) → record_length kind ≤ 36
most_length kind = go (eqb kind 3)
  where
    go : (b : Bool) → 2 + cond b 18 34 ≤ 36
    go true = omega arith
    go false = omega arith

pub length_record : (r : Row) → length (record_of r) ≡ record_length r.kind
unfolding record_of little_endian
length_record r = go (eqb r.kind 3)
  where
    go : (b : Bool) → length (little_endian 2 (cond b 18 34) ++ little_endian 2 r.kind ++ little_endian 8 r.register ++ little_endian 8 r.value ++ cond b [] (little_endian 8 r.start ++ little_endian 8 r.finish)) ≡ 2 + cond b 18 34
    go true = refl
    go false = refl

-- The row whose five numbers stand in a table.
pub cells_row : (t : List ℕ) (i : ℕ) (r : Row) → take 5 (drop (i * 5) t) ≡ cells r → row_at t i ≡ r
cells_row t i r e = rw (column 0 (omega arith), column 1 (omega arith), column 2 (omega arith), column 3 (omega arith), column 4 (omega arith))
  where
    column : (k : ℕ) → k < 5 → get_or t (i * 5 + k) 0 ≡ get_or (cells r) k 0
    column k h = sym (get_or-drop (i * 5) t k 0) ∙ sym (get_or-take 5 (drop (i * 5) t) k 0 h) ∙ ap (λ (l : List ℕ). get_or l k 0) e

pub row_cells : (t : List ℕ) (i : ℕ) → i * 5 + 5 ≤ length t → take 5 (drop (i * 5) t) ≡ cells (row_at t i)
unfolding from
row_cells t i h = part_list t (i * 5) 5 h

-- A row's numbers fit into a record's fields, and the stamps that an opening's record lacks are 0.
pub record Fitting (r : Row) : Type 0 where
  pub register : r.register < 256 ^ 8
  pub kind : r.kind < 256 ^ 2
  pub value : r.value < 256 ^ 8
  pub start : r.start < 256 ^ 8
  pub finish : r.finish < 256 ^ 8
  pub opening : r.kind ≡ 3 → (r.start ≡ 0) × (r.finish ≡ 0)

-- The fields of a record that holds a row.
module _ (bs : List ℕ) (at : ℕ) (r : Row) (e : take (record_length r.kind) (drop at bs) ≡ record_of r) where
  in_record : (k n : ℕ) → k + n ≤ record_length r.kind → field bs (at + k) n ≡ value_of (take n (drop k (record_of r)))
  unfolding field
  in_record k n h = ap value_of (sym (part_part bs at (record_length r.kind) k n h) ∙ ap (λ (l : List ℕ). take n (drop k l)) e)

  pub record_length_lem : field bs at 2 ≡ body_length r.kind
  unfolding record_of little_endian
  record_length_lem =
      ap (λ (o : ℕ). field bs o 2) (sym (add-zero at)) ∙ in_record 0 2 (omega (arith, least_length r.kind))
      ∙ value_bytes 2 (body_length r.kind) (omega (arith, most_length r.kind))

  module _ (f : Fitting r) where
    pub record_kind : field bs (at + 2) 2 ≡ r.kind
    unfolding record_of little_endian
    record_kind = in_record 2 2 (omega (arith, least_length r.kind)) ∙ value_bytes 2 r.kind f.kind

    register_is : field bs (at + 4) 8 ≡ r.register
    unfolding record_of little_endian
    register_is = in_record 4 8 (omega (arith, least_length r.kind)) ∙ value_bytes 8 r.register f.register

    value_is : field bs (at + 12) 8 ≡ r.value
    unfolding record_of little_endian
    value_is = in_record 12 8 (omega (arith, least_length r.kind)) ∙ value_bytes 8 r.value f.value

    stamps_are : (b : Bool) → eqb r.kind 3 ≡ b → (cond b 0 (field bs (at + 20) 8) ≡ r.start) × (cond b 0 (field bs (at + 28) 8) ≡ r.finish)
    unfolding record_of little_endian
    stamps_are true k = let z = f.opening (eqb-true r.kind 3 k) in (sym z.0, sym z.1)
    stamps_are false k =
        let long : record_length r.kind ≡ 36 = rw k in
        let held : record_of r ≡ little_endian 2 (body_length r.kind) ++ little_endian 2 r.kind ++ little_endian 8 r.register ++ little_endian 8 r.value ++ (little_endian 8 r.start ++ little_endian 8 r.finish) = rw k in (
          in_record 20 8 (omega arith) ∙ ap (λ (l : List ℕ). value_of (take 8 (drop 20 l))) held ∙ value_bytes 8 r.start f.start,
          in_record 28 8 (omega arith) ∙ ap (λ (l : List ℕ). value_of (take 8 (drop 28 l))) held ∙ value_bytes 8 r.finish f.finish,
        )

    pub record_row : record_from bs at ≡ r
    unfolding record_from
    record_row = let s = stamps_are (eqb r.kind 3) refl in rw (record_kind, register_is, value_is, s.0, s.1)

-- The bytes of a record, from its fields.
module _ (bs : List ℕ) (b : Bytes bs) (at : ℕ) (s : Stands bs at) where
  abbrev kind : ℕ
  kind = field bs (at + 2) 2

  split : (o a c p : ℕ) → o + a ≡ p → take (a + c) (drop o bs) ≡ take a (drop o bs) ++ take c (drop p bs)
  split o a c p q = take-add a c (drop o bs) ∙ ap (λ (l : List ℕ). take a (drop o bs) ++ take c l) (drop-drop a o bs ∙ ap (λ (x : ℕ). drop x bs) q)

  head : little_endian 2 (body_length kind) ++ little_endian 2 kind ++ little_endian 8 (field bs (at + 4) 8) ++ little_endian 8 (field bs (at + 12) 8) ≡ take 20 (drop at bs)
  head =
      let l : at + 20 ≤ length bs = omega (arith, s.whole, least_length kind) in
      rw (
        ← s.size,
        field_bytes bs at 2 b (omega arith),
        field_bytes bs (at + 2) 2 b (omega arith),
        field_bytes bs (at + 4) 8 b (omega arith),
        field_bytes bs (at + 12) 8 b (omega arith),
        split at 12 8 (at + 12) refl,
        split at 4 8 (at + 4) refl,
        split at 2 2 (at + 2) refl,
      )

  stamps : (c : Bool) → eqb kind 3 ≡ c →
      take 20 (drop at bs) ++ cond c [] (little_endian 8 (cond c 0 (field bs (at + 20) 8)) ++ little_endian 8 (cond c 0 (field bs (at + 28) 8))) ≡ take (2 + cond c 18 34) (drop at bs)
  stamps true k = append-nil (take 20 (drop at bs))
  stamps false k =
      let long : record_length kind ≡ 36 = rw k in
      rw (
        field_bytes bs (at + 20) 8 b (omega (arith, s.whole)),
        field_bytes bs (at + 28) 8 b (omega (arith, s.whole)),
        ← split (at + 20) 8 8 (at + 28) (omega arith),
        ← split at 20 16 (at + 20) refl,
      )

  pub row_record : record_of (record_from bs at) ≡ take (record_length kind) (drop at bs)
  unfolding record_of record_from
  row_record = rw head (stamps (eqb kind 3) refl)

-- The records that are walked along, where each stands and the walk goes to the end, are the bytes.
module _ (bs : List ℕ) (b : Bytes bs) where
  pub records_bytes : (n at : ℕ) → length (offsets_from n bs at) < n → ((k : ℕ) → In k (offsets_from n bs at) → Stands bs k) → flat_map (λ k. record_of (record_from bs k)) (offsets_from n bs at) ≡ drop at bs
  unfolding flat_map
  records_bytes zero at l h = absurd (omega arith)
  records_bytes (suc n) at l h = go (ltb at (length bs)) refl (records_bytes n (next bs at))
    where
      go : (c : Bool) → ltb at (length bs) ≡ c
          → (length (offsets_from n bs (next bs at)) < n → ((k : ℕ) → In k (offsets_from n bs (next bs at)) → Stands bs k) → flat_map (λ k. record_of (record_from bs k)) (offsets_from n bs (next bs at)) ≡ drop (next bs at) bs)
          → flat_map (λ k. record_of (record_from bs k)) (offsets_from (suc n) bs at) ≡ drop at bs
      go true e ih =
          let m = offsets_more bs n at (ltb-true at (length bs) e) in
          let s = h at (rw m (here refl)) in
          let size = record_length (field bs (at + 2) 2) in
          let o : next bs at ≡ at + size = ap (λ (x : ℕ). at + (2 + x)) s.size in
          let rest = ih (omega (arith, ap length m)) (λ k i. h k (rw m (there i))) in
          rw (m, rest, row_record bs b at s, o, ← drop-drop size at bs) (take-append-drop size (drop at bs))
      go false e ih = let k : length bs ≤ at = ltb-false at (length bs) e in rw (offsets_end bs (suc n) at k) (sym (drop_of_length-le bs k))

-- Bytes from an offset on that are the records of some rows: these are the rows walked along, and each record stands.
pub record Back (bs ks : List ℕ) (rs : List Row) : Type 0 where
  pub rows : map (record_from bs) ks ≡ rs
  pub stands : (k : ℕ) → In k ks → Stands bs k

module _ (bs : List ℕ) where
  pub rows_back : (rs : List Row) (n at : ℕ) → length rs ≤ n → drop at bs ≡ flat_map record_of rs → ((r : Row) → In r rs → Fitting r) → Back bs (offsets_from n bs at) rs
  unfolding flat_map
  rows_back [] n at l e f =
      let k : length bs ≤ at = omega (arith, ap length e, length-drop at bs) in
      rw (offsets_end bs n at k) (record { rows = refl; stands = λ j m. absurd (omega (arith, some_length m)) })
  rows_back (r ∷ rs) zero at l e f = absurd (omega arith)
  rows_back (r ∷ rs) (suc n) at l e f =
      let size = record_length r.kind in
      let long = length_record r in
      let rest = flat_map record_of rs in
      let there-is : at + size ≤ length bs = omega (arith, ap length e, length-drop at bs, length-append (record_of r) rest, least_length r.kind) in
      let fr = f r (here refl) in
      let held : take size (drop at bs) ≡ record_of r = ap (take size) e ∙ take_at (record_of r) rest size long in
      let behind : drop (at + size) bs ≡ rest = sym (drop-drop size at bs) ∙ ap (drop size) e ∙ drop_at (record_of r) rest size long in
      let k = record_kind bs at r held fr in
      let o : next bs at ≡ at + size = ap (λ (x : ℕ). at + (2 + x)) (record_length_lem bs at r held) in
      let s : Stands bs at = record { size = record_length_lem bs at r held ∙ ap body_length (sym k); whole = rw k there-is } in
      let b = rows_back rs n (next bs at) (omega arith) (rw o behind) (λ q m. f q (there m)) in
      rw (offsets_more bs n at (omega (arith, least_length r.kind))) (record { rows = rw (record_row bs at r held fr, b.rows) refl; stands = each s b.stands })
    where
      each : {ks : List ℕ} {at : ℕ} → Stands bs at → ((k : ℕ) → In k ks → Stands bs k) → (k : ℕ) → In k (at ∷ ks) → Stands bs k
      each s h k (here e) = rw e s
      each s h k (there m) = h k m

-- The table of a file.
module _ (bs : List ℕ) where
  pub length_table : length (table_of bs) ≡ begun bs * 5
  unfolding table_of
  length_table = length_blocks (λ n. cells (record_at bs n)) 5 (λ i. refl) (begun bs)

  pub count_table : row_count (table_of bs) ≡ begun bs
  count_table = let n = begun bs in omega (arith, length_table)

  pub table_row : (i : ℕ) → i < begun bs → row_at (table_of bs) i ≡ record_at bs i
  unfolding table_of
  table_row i h = cells_row (table_of bs) i (record_at bs i) (blocks_part (λ n. cells (record_at bs n)) 5 (λ i. refl) (begun bs) i h)

-- THE FILE OF A FILE'S TABLE, where each of at most 1,024 records stands, is the file.
pub file_again : (bs : List ℕ) → Bytes bs → begun bs ≤ largest_count → ((i : ℕ) → i < begun bs → Stands bs (offset bs i)) → file_of (table_of bs) ≡ bs
unfolding file_of offsets
file_again bs b few h =
    let g : ℕ → List ℕ = λ k. record_of (record_from bs k) in
    ap (λ (n : ℕ). flat_map (λ k. record_of (row_at (table_of bs) k)) (up_to n)) (count_table bs)
    ∙ flat_ext (λ k. record_of (row_at (table_of bs) k)) (λ k. record_of (record_at bs k)) (up_to (begun bs)) (λ k m. ap record_of (table_row bs k (in_below (begun bs) m)))
    ∙ flat_places g (offsets bs)
    ∙ records_bytes bs b 1025 0 (omega arith) (λ k m. let j = in_at 0 m in rw (← j.2) (h j.0 j.1))

-- The file of a table of at most 1,024 rows that fit: its records are those of the rows, and each stands.
module _ (t : List ℕ) (few : row_count t ≤ largest_count) (fit : (i : ℕ) → i < row_count t → Fitting (row_at t i)) where
  abbrev bs : List ℕ
  bs = file_of t

  abbrev rows : List Row
  rows = map (row_at t) (up_to (row_count t))

  count : length rows ≡ row_count t
  count = length-map (up_to (row_count t)) (row_at t) ∙ from_length 0 (row_count t)

  back : Back bs (offsets bs) rows
  unfolding file_of offsets
  back =
      rows_back bs rows 1025 0 (omega (arith, count)) (sym (flat_map_lem (row_at t) record_of (up_to (row_count t))))
      (λ r m. let k = in_map (row_at t) (up_to (row_count t)) m in rw k.2 (fit k.0 (in_below (row_count t) k.1)))

  pub count_file : begun bs ≡ row_count t
  count_file = sym (length-map (offsets bs) (record_from bs)) ∙ ap length back.rows ∙ count

  pub file_row : (i : ℕ) → i < row_count t → record_at bs i ≡ row_at t i
  file_row i h =
      let zero : Row = row_at [] 0 in
      sym (get_d_map (record_from bs) (offsets bs) i zero 0 (omega (arith, count_file)))
      ∙ ap (λ (l : List Row). get_or l i zero) back.rows
      ∙ get_d_map (row_at t) (up_to (row_count t)) i zero 0 (omega (arith, from_length 0 (row_count t)))
      ∙ ap (row_at t) (from_at 0 (row_count t) i h ∙ zero-add i)

  pub file_stands : (i : ℕ) → i < begun bs → Stands bs (offset bs i)
  file_stands i h = back.stands (offset bs i) (get_d_in (offsets bs) 0 i h)
