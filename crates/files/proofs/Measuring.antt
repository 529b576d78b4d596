-- The loops over a table's rows that add up the lengths of their records, and that write them.
-- Assumes nothing.
use Prim.Native.Nat.{ℕ, ◌+◌, ◌*◌, ◌≤◌, ◌<◌}
use mathlib.Core.Path.{◌≡◌, refl, sym, ap, ◌∙◌}
use mathlib.Core.List.{List, ◌++◌, flat_map}
use native.Mathlib.Omega.{arith}
use lib.ListN.{length, drop}
use lib.Seq.{sets}
use Rattle.lists.specs.Lists.{from}
use Rattle.history.specs.Table.{cell, row_at, row_count}
use Rattle.records.specs.Records.{body_length, record_length, record_of, file_of}
use Rattle.records.proofs.Blocks.{blocks, blocks_longer, blocks_le}
use Rattle.records.proofs.Records.{length_record, most_length}
use Rattle.files.proofs.Filling.{Filling, fill_none, fill_long, fill_behind, fill_end}

module _ (t : List ℕ) where
  abbrev pub part : ℕ → List ℕ
  part k = record_of (row_at t k)

  -- one record more
  pub part_more : (i : ℕ) → length (blocks part (i + 1)) ≡ length (blocks part i) + record_length (cell t i 1)
  part_more i = blocks_longer part i ∙ ap (λ (k : ℕ). length (blocks part i) + k) (length_record (row_at t i))

  -- The lengths of the first i records are added up.
  pub record Measuring (n i total : ℕ) : Type 0 where
    pub within : i ≤ n
    pub sum : total ≡ length (blocks part i)
    pub most : total ≤ i * 36

  pub measure_none : (n : ℕ) → Measuring n 0 0
  unfolding from flat_map
  measure_none n = record { within = omega arith; sum = refl; most = omega arith }

  module _ (n i total : ℕ) (g : Measuring n i total) where
    pub measure_more : i < n → (size : ℕ) → size ≡ body_length (cell t i 1) → Measuring n (i + 1) (total + (2 + size))
    measure_more h size e =
        record {
          within = omega arith;
          sum = ap (λ (k : ℕ). total + (2 + k)) e ∙ ap (λ (k : ℕ). k + record_length (cell t i 1)) g.sum ∙ sym (part_more i);
          most = omega (arith, g.most, e, most_length (cell t i 1));
        }

    pub measure_end : n ≡ row_count t → n ≤ i → total ≡ length (file_of t)
    unfolding file_of
    measure_end e h = let k : i ≡ row_count t = omega (arith, g.within) in g.sum ∙ ap (λ (x : ℕ). length (blocks part x)) k

  -- The first i records are written, and the next one begins at `at`.
  pub record Writing (old : List ℕ) (i at : ℕ) (l : List ℕ) : Type 0 where
    pub filling : Filling part old (row_count t) i l
    pub behind : at ≡ length (blocks part i)

  pub writing_none : (old : List ℕ) → Writing old 0 0 old
  unfolding from flat_map
  writing_none old = record { filling = fill_none part old (row_count t); behind = refl }

  module _ (old : List ℕ) (room : length (file_of t) ≤ length old) (i at : ℕ) (l : List ℕ) (g : Writing old i at l) where
    pub writing_long : length l ≡ length old
    writing_long = fill_long part old (row_count t) i l g.filling

    pub writing_room : i < row_count t → at + record_length (cell t i 1) ≤ length l
    unfolding file_of
    writing_room h = omega (arith, room, g.behind, part_more i, blocks_le part (i + 1) (row_count t) (omega arith), writing_long)

    pub writing_more : i < row_count t → (m : List ℕ) (next : ℕ) → (next ≡ at + record_length (cell t i 1)) × (m ≡ sets l at (part i)) → Writing old (i + 1) next m
    writing_more h m next e =
        record {
          filling = fill_behind part old (row_count t) i l g.filling h at g.behind m e.1;
          behind = e.0 ∙ ap (λ (k : ℕ). k + record_length (cell t i 1)) g.behind ∙ sym (part_more i);
        }

    pub writing_end : row_count t ≤ i → l ≡ file_of t ++ drop (length (file_of t)) old
    unfolding file_of
    writing_end h = fill_end part old (row_count t) i l g.filling h room
