-- What finding and reading a register's rows alone answer and leave, from what the pass over the records finds.
-- Assumes nothing.
use Prim.Native.Nat.{ℕ, ◌*◌, ◌≤◌, ◌<◌}
use mathlib.Core.Path.{◌≡◌, refl, sym, ap, ◌∙◌}
use mathlib.Core.Logic.{◌≢◌}
use mathlib.Core.List.{List, [], ◌∷◌, ◌++◌, Memᴰ as In}
use native.Mathlib.Omega.{arith}
use borrow.Author.Tests.{ltb-false}
use lib.ListN.{length, length-map, get_or, take, drop}
use Rattle.lists.specs.Lists.{up_to}
use Rattle.lists.proofs.Members.{in_keep}
use Rattle.lists.proofs.Images.{get_d_map, get_d_in}
use Rattle.lists.proofs.Counts.{keep_length}
use Rattle.lists.proofs.Ranges.{in_below, from_length}
use Rattle.history.specs.declared.Answer.{Answer}
use Rattle.history.specs.Answer.{Test, first_met, passed}
use Rattle.history.proofs.Refusals.{met_append, no_fault_answer, code_no_fault, if_so_lem, met_kept}
use Rattle.records.specs.Records.{begun, offset, record_from, cells, Stands}
use Rattle.records.proofs.Blocks.{flat_map_lem}
use Rattle.files.specs.Files.{Whole, file_tests, file_answer, room_test}
use Rattle.files.proofs.Passing.{whole_file, code_whole}
use Rattle.files.proofs.Calls.{after_refused, after_fresh, code_of}
use Rattle.selection.specs.Selected.{is_of, records_of, register_table, find_answer, Placed, rows_at, copied, select_tests, select_answer, select_table, Picked}

-- what the places of a register's records are
module _ (bs : List ℕ) (register : ℕ) (places : List ℕ) (p : Placed bs register places) where
  pub placed_long : length places ≡ length (records_of bs register)
  placed_long = ap length p.each ∙ length-map (records_of bs register) (offset bs)

  pub placed_few : length places ≤ 1024
  unfolding records_of
  placed_few = omega (arith, placed_long, keep_length (is_of bs register) (up_to (begun bs)), from_length 0 (begun bs), p.whole.few)

  pub placed_stand : (k : ℕ) → k < length places → Stands bs (get_or places k 0)
  unfolding records_of
  placed_stand k l =
      let rows = records_of bs register in
      let h : k < length rows = omega (arith, placed_long) in
      let m : In (get_or rows k 0) rows = get_d_in rows 0 k h in
      let b = in_below (begun bs) (in_keep (is_of bs register) (up_to (begun bs)) m).0 in
      rw (p.each, get_d_map (offset bs) rows k 0 0 h) (p.whole.stands (get_or rows k 0) b)

  pub placed_rows : rows_at bs places ≡ register_table bs register
  unfolding register_table
  placed_rows = ap (rows_at bs) p.each ∙ flat_map_lem (offset bs) (λ at. cells (record_from bs at)) (records_of bs register)

module _ (bs : List ℕ) (register : ℕ) where
  abbrev rows : ℕ
  rows = length (records_of bs register)

  -- what the call that finds them answers, and what it leaves
  abbrev pub Find : Answer → List ℕ → Type 0
  Find a picks = (a ≡ find_answer bs register) × (a.code ≡ 0 → Placed bs register (take a.rows picks))

  find_refused : (file_answer bs).code ≢ 0 → find_answer bs register ≡ file_answer bs
  unfolding find_answer
  find_refused n = met_kept (file_tests bs) (passed (begun bs)) (passed rows) refl n

  find_sound : Whole bs → find_answer bs register ≡ passed rows
  unfolding find_answer
  find_sound w = no_fault_answer (file_tests bs) (passed rows) (whole_file bs w)

  pub find_not : (picks : List ℕ) → (Whole bs → ⊥) → (a : Answer) → a ≡ file_answer bs → Find a picks
  find_not picks n a q =
      let code : (file_answer bs).code ≢ 0 = λ z. n (code_whole bs z) in
      (q ∙ sym (find_refused code), λ z. absurd (code (code_of (sym q) z)))

  pub find_all : (picks : List ℕ) (m : ℕ) → Picked bs register picks m → (a : Answer) → a ≡ passed m → Find a picks
  find_all picks m p a q =
      (q ∙ ap passed p.count ∙ sym (find_sound p.whole), λ z. record { whole = p.whole; each = ap (λ (x : Answer). take x.rows picks) q ∙ p.front })

  -- what a caller knows by the answer's code
  module _ (a : Answer) (e : a ≡ find_answer bs register) where
    pub found_refused : a.code ≢ 0 → ((file_answer bs).code ≢ 0) × (a ≡ file_answer bs)
    found_refused n =
        let code : (file_answer bs).code ≢ 0 = λ z. n (code_of (e ∙ find_sound (code_whole bs z)) refl) in
        (code, e ∙ find_refused code)

    pub found_rows : Whole bs → a.rows ≡ rows
    found_rows w = ap (λ (x : Answer). x.rows) (e ∙ find_sound w)

    module _ (picks : List ℕ) (p : Placed bs register (take a.rows picks)) where
      pub found_long : a.rows ≡ length (take a.rows picks)
      found_long = found_rows p.whole ∙ sym (placed_long bs register (take a.rows picks) p)

      pub found_few : a.rows ≤ 1024
      found_few = omega (arith, found_long, placed_few bs register (take a.rows picks) p)

module _ (bs : List ℕ) (register : ℕ) (table : List ℕ) where
  -- the answer and the table after a call that reads
  abbrev pub Read : Answer → List ℕ → Type 0
  Read a after = (a ≡ select_answer bs register table) × (after ≡ select_table bs register table)

  left : (a : Answer) → a ≡ select_answer bs register table → a.code ≢ 0 → Read a table
  unfolding select_table
  left a e n = (e, sym (after_refused (select_answer bs register table) (register_table bs register) table (λ z. n (code_of e z))))

  abbrev room : List Test
  room = room_test (rows bs register * 5) (length table) ∷ []

  -- A refused file's refusal is the answer; of a sound one the test of the room has the last word.
  select_refused : (file_answer bs).code ≢ 0 → select_answer bs register table ≡ file_answer bs
  unfolding select_answer select_tests
  select_refused n =
      met_append (file_tests bs) room (passed (rows bs register)) ∙ met_kept (file_tests bs) (passed (begun bs)) (first_met room (passed (rows bs register))) refl n

  select_sound : Whole bs → select_answer bs register table ≡ first_met room (passed (rows bs register))
  unfolding select_answer select_tests
  select_sound w =
      met_append (file_tests bs) room (passed (rows bs register)) ∙ no_fault_answer (file_tests bs) (first_met room (passed (rows bs register))) (whole_file bs w)

  pub read_refused : (a : Answer) → a ≡ find_answer bs register → a.code ≢ 0 → Read a table
  read_refused a e n = let f = found_refused bs register a e n in left a (f.1 ∙ sym (select_refused f.0)) n

  module _ (places : List ℕ) (p : Placed bs register places) (m : ℕ) (count : m ≡ length places) (a : Answer) (e : a ≡ first_met (room_test (m * 5) (length table) ∷ []) (passed m)) where
    judged : a ≡ select_answer bs register table
    judged =
        e
        ∙ ap (λ (k : ℕ). first_met (room_test (k * 5) (length table) ∷ []) (passed k)) (count ∙ placed_long bs register places p)
        ∙ sym (select_sound p.whole)

    pub read_short : a.code ≢ 0 → Read a table
    read_short n = left a judged n

    pub read_fresh : a.code ≡ 0 → (after : List ℕ) → after ≡ copied bs places table → Read a after
    unfolding select_table
    read_fresh z after q = (
      judged,
      q
          ∙ ap (λ l. l ++ drop (length l) table) (placed_rows bs register places p)
          ∙ sym (after_fresh (select_answer bs register table) (register_table bs register) table (code_of (sym judged) z)),
    )

-- an answer of code 0 leaves room
pub room_enough : (m room : ℕ) (a : Answer) → a ≡ first_met (room_test (m * 5) room ∷ []) (passed m) → a.code ≡ 0 → m * 5 ≤ room
room_enough m room a e z =
    let n = code_no_fault (room_test (m * 5) room ∷ []) ((λ y. omega (arith, y)), tt) (passed m) (code_of (sym e) z) in
    ltb-false room (m * 5) (if_so_lem _ n.0)
