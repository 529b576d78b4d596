-- What a caller knows after a register's rows alone were copied: how many there are, and what stands in the table.
-- Assumes nothing.
use Prim.Native.Nat.{ℕ, ◌*◌, ◌≤◌}
use mathlib.Core.Path.{◌≡◌, refl, sym, ap, ◌∙◌}
use mathlib.Core.List.{List, ◌++◌}
use native.Mathlib.Omega.{arith}
use lib.ListN.{length, get_or, take, drop}
use lib.Seq.{take_at}
use Rattle.lists.specs.Lists.{up_to}
use Rattle.lists.proofs.Counts.{keep_length}
use Rattle.lists.proofs.Ranges.{from_length}
use Rattle.records.specs.Records.{begun, record_at, cells}
use Rattle.records.proofs.Blocks.{flat_places, length_blocks}
use Rattle.selection.specs.Selected.{is_of, records_of, register_table, Placed, copied}
use Rattle.selection.proofs.Selecting.{placed_long, placed_rows}

-- the table has five numbers for each of the register's rows
pub length_register : (bs : List ℕ) (register : ℕ) → length (register_table bs register) ≡ length (records_of bs register) * 5
unfolding register_table
length_register bs register =
    let rows = records_of bs register in
    ap length (sym (flat_places (λ n. cells (record_at bs n)) rows)) ∙ length_blocks (λ j. cells (record_at bs (get_or rows j 0))) 5 (λ i. refl) (length rows)

pub register_few : (bs : List ℕ) (register : ℕ) → length (records_of bs register) ≤ begun bs
unfolding records_of
register_few bs register = omega (arith, keep_length (is_of bs register) (up_to (begun bs)), from_length 0 (begun bs))

-- The rows of the records at the register's places, copied to the front of a table.
module _ (bs : List ℕ) (register : ℕ) (places : List ℕ) (p : Placed bs register places) (table loaded : List ℕ) (o : loaded ≡ copied bs places table) where
  is_loaded : loaded ≡ register_table bs register ++ drop (length (register_table bs register)) table
  is_loaded = o ∙ ap (λ l. l ++ drop (length l) table) (placed_rows bs register places p)

  long : length (register_table bs register) ≡ length places * 5
  long = omega (arith, length_register bs register, placed_long bs register places p)

  pub loaded_front : take (length places * 5) loaded ≡ register_table bs register
  loaded_front = ap (take (length places * 5)) is_loaded ∙ take_at (register_table bs register) (drop (length (register_table bs register)) table) (length places * 5) long

  pub loaded_long : length places * 5 ≡ length (take (length places * 5) loaded)
  loaded_long = sym long ∙ ap length (sym loaded_front)
