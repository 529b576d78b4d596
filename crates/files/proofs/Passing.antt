-- What a file and a table are that pass their tests, and what room has to do with it.
-- Assumes nothing.
use Prim.Native.Nat.{ℕ, zero, suc, ◌+◌, ◌*◌, ◌%◌, ◌^◌, ◌≤◌, ◌<◌}
use mathlib.Core.Path.{◌≡◌, refl, sym, ap, ◌∙◌}
use mathlib.Core.Logic.{◌≢◌, ◌⊎◌, inl, inr}
use mathlib.Core.Bool.{Bool, true, false, cond, not, ◌||◌}
use mathlib.Core.List.Memᴰ.{head as here}
use mathlib.Core.List.Memᴰ.{tail as there}
use mathlib.Core.List.{List, [], ◌∷◌, ◌++◌, map, Memᴰ as In}
use native.Mathlib.Omega.{arith}
use borrow.Author.Tests.{not-false, eqb-true, eqb-false, eq-eqb, ne_eqb, ltb-false, le-ltb, leb-false, lt-leb}
use lib.Dec.{eqb, leb}
use lib.ListN.{length}
use Rattle.std.specs.Prelude.{Some, None}
use Rattle.lists.specs.Lists.{up_to}
use Rattle.lists.proofs.Tests.{told_true, told_or, told_eqb, or_false}
use Rattle.lists.proofs.Members.{first_cons_hit, first_cons_miss, nothing_none, none_nothing}
use Rattle.lists.proofs.Maps.{in_map, map_in, in_flat}
use Rattle.lists.proofs.Ranges.{below_in, in_below}
use Rattle.history.specs.declared.Op.{Op}
use Rattle.history.specs.Table.{largest_count, cell, operation, op_at, row_count, is_opening, is_write, is_read}
use Rattle.history.specs.Answer.{number, Test, lowest_row, refused_or, first_met, passed}
use Rattle.history.specs.declared.Code.TheVariants.{Overfull, StrangeRecord}
use Rattle.history.specs.Screen.{wrong_kind, stray_opening}
use Rattle.history.proofs.Refusals.{NoFault, Coded, coded_append, no_fault_append, no_fault_left, no_fault_right, code_no_fault, no_fault_answer, if_so_lem, if_not, met_stop}
use Rattle.records.specs.Records.{field, body_length, begun, offset, record_from, file_of, Stands}
use Rattle.records.proofs.Records.{least_length}
use Rattle.files.specs.Files.{Whole, at_record, left, mismatched, record_tests, tests_at, file_tests, file_answer, room_test, read_tests, read_answer, ops_of, write_tests, write_answer}
use Rattle.files.proofs.Meeting.{coded_in, no_fault_flat, flat_no_fault}

-- The numbers are at most 1,024 whole rows of a right kind, and no opening has another stamp than 0.
pub record Tabular (t : List ℕ) : Type 0 where
  pub size : length t ≡ row_count t * 5
  pub few : row_count t ≤ largest_count
  pub kinds : (i : ℕ) → i < row_count t → wrong_kind (op_at t i) ≡ false
  pub stamps : (i : ℕ) → i < row_count t → stray_opening (op_at t i) ≡ false

-- a right kind fits into two bytes
pub kind_small : (o : Op) → wrong_kind o ≡ false → o.kind < 256 ^ 2
unfolding wrong_kind is_write is_opening is_read
kind_small o e = go (told_true (told_or (told_or (told_eqb o.kind 1) (told_eqb o.kind 3)) (told_eqb o.kind 2)) (not-false (is_write o || is_read o) e))
  where
    go : ((o.kind ≡ 1) ⊎ (o.kind ≡ 3)) ⊎ (o.kind ≡ 2) → o.kind < 256 ^ 2
    go (inl (inl k)) = omega arith
    go (inl (inr k)) = omega arith
    go (inr k) = omega arith

-- what the kinds and lengths are that go together
body_known : (size kind : ℕ) → size ≡ body_length kind → not (eqb size 34 || eqb size 18) ≡ false
body_known size kind e = rw e (go (eqb kind 3))
  where
    go : (b : Bool) → not (eqb (cond b 18 34) 34 || eqb (cond b 18 34) 18) ≡ false
    go true = refl
    go false = refl

pub known_body : (size : ℕ) → not (eqb size 34 || eqb size 18) ≡ false → 18 ≤ size
known_body size e = go (told_true (told_or (told_eqb size 34) (told_eqb size 18)) (not-false _ e))
  where
    go : (size ≡ 34) ⊎ (size ≡ 18) → 18 ≤ size
    go (inl k) = omega arith
    go (inr k) = omega arith

at_so : (n : ℕ) (b : Bool) → at_record n b ≡ None → b ≡ false
at_so n true e = let z : ◌≡◌ {A = ℕ} 0 1 = cc in absurd (omega arith)
at_so n false e = refl

at_not : (n : ℕ) (b : Bool) → b ≡ false → at_record n b ≡ None
at_not n b e = rw e

-- The codes of the tests at the records: 16, 17 and 2.
module _ (P : ℕ → Type 0) (cut : P 16) (strange : P 17) (over : P 2) (bs : List ℕ) where
  record_codes : (n at : ℕ) (x : Test) → In x (record_tests bs n at) → P (number x.code)
  unfolding record_tests
  record_codes n at x (here e) = rw e cut
  record_codes n at x (there (here e)) = rw e strange
  record_codes n at x (there (there (here e))) = rw e cut
  record_codes n at x (there (there (there (here e)))) = rw e strange
  record_codes n at x (there (there (there (there (here e))))) = rw e over
  record_codes n at x (there (there (there (there (there x21))))) = elim x21 [ ]

  pub file_codes : (x : Test) → In x (file_tests bs) → P (number x.code)
  unfolding file_tests
  file_codes x m = let k = in_flat (tests_at bs) (up_to (begun bs)) m in record_codes k.0 (offset bs k.0) x k.2

pub record_coded : (bs : List ℕ) (n at : ℕ) → Coded (record_tests bs n at)
unfolding record_tests
record_coded bs n at = omega arith

pub file_coded : (bs : List ℕ) → Coded (file_tests bs)
file_coded bs = coded_in (file_tests bs) (file_codes (λ c. c ≢ 0) (λ e. omega arith) (λ e. omega arith) (λ e. omega arith) bs)

-- A file that passes, both ways.
module _ (bs : List ℕ) where
  -- at one record
  pub record Passes (i at : ℕ) : Type 0 where
    pub stands : Stands bs at
    pub kind : wrong_kind (operation (record_from bs at) i) ≡ false
    pub few : i < largest_count

  pub passes : (i at : ℕ) → NoFault (record_tests bs i at) → Passes i at
  unfolding record_tests mismatched record_from
  passes i at h =
      let size = field bs at 2 in
      let kind = field bs (at + 2) 2 in
      let fit = or_false (wrong_kind (operation (record_from bs at) i)) (not (eqb size (body_length kind))) (at_so at _ h.1.1.1.0) in
      let same : size ≡ body_length kind = eqb-true size (body_length kind) (not-false _ fit.1) in
      let long : 2 + size ≤ left bs at = ltb-false (left bs at) (2 + size) (at_so at _ h.1.1.0) in
      record {
        stands = record { size = same; whole = omega (arith, same, known_body size (at_so at _ h.1.0)) };
        kind = fit.0;
        few = leb-false largest_count i (at_so at _ h.1.1.1.1.0);
      }

  pub passed_tests : (i at : ℕ) → Passes i at → NoFault (record_tests bs i at)
  unfolding record_tests mismatched record_from
  passed_tests i at p =
      let size = field bs at 2 in
      let kind = field bs (at + 2) 2 in
      let s = p.stands in
      let few = least_length kind in
      let fit : (wrong_kind (operation (record_from bs at) i) || not (eqb size (body_length kind))) ≡ false = rw p.kind (ap not (eq-eqb size (body_length kind) s.size)) in (
        at_not at _ (ne_eqb (left bs at) 1 (λ e. omega (arith, s.whole))),
        (
          at_not at _ (body_known size kind s.size),
          (
            at_not at _ (le-ltb (left bs at) (2 + size) (omega (arith, s.whole, s.size))),
            (
              at_not at _ fit,
              (at_not at _ (lt-leb largest_count i p.few), tt),
            ),
          ),
        ),
      )

  pub file_whole : NoFault (file_tests bs) → Whole bs
  unfolding file_tests
  file_whole h =
      let each : (i : ℕ) → i < begun bs → Passes i (offset bs i) = λ i l. passes i (offset bs i) (flat_no_fault (tests_at bs) (up_to (begun bs)) h (below_in (begun bs) l)) in
      record {
        few = few (begun bs) refl each;
        stands = λ i l. (each i l).stands;
        kinds = λ i l. (each i l).kind;
      }
    where
      few : (n : ℕ) → begun bs ≡ n → ((i : ℕ) → i < begun bs → Passes i (offset bs i)) → begun bs ≤ largest_count
      few zero e each = omega arith
      few (suc n) e each = let p = (each n (omega arith)).few in omega arith

  pub whole_file : Whole bs → NoFault (file_tests bs)
  unfolding file_tests
  whole_file w =
      no_fault_flat (tests_at bs) (up_to (begun bs))
      (λ i m. let l = in_below (begun bs) m in passed_tests i (offset bs i) (record { stands = w.stands i l; kind = w.kinds i l; few = omega (arith, w.few) }))

  pub code_whole : (file_answer bs).code ≡ 0 → Whole bs
  code_whole e = file_whole (code_no_fault (file_tests bs) (file_coded bs) (passed (begun bs)) e)

  pub whole_answer : Whole bs → file_answer bs ≡ passed (begun bs)
  whole_answer w = no_fault_answer (file_tests bs) (passed (begun bs)) (whole_file w)

-- A table that passes, both ways.
module _ (t : List ℕ) (room : ℕ) where
  pub write_coded : Coded (write_tests t room)
  unfolding write_tests
  write_coded = omega arith

  pub table_tabular : NoFault (write_tests t room) → Tabular t × (length (file_of t) ≤ room)
  unfolding write_tests ops_of
  table_tabular h =
      let whole : length t % 5 ≡ 0 = eqb-true (length t % 5) 0 (not-false _ (if_so_lem _ h.0)) in (
        record {
          size = omega arith;
          few = ltb-false largest_count (row_count t) (if_so_lem _ h.1.0);
          kinds = λ i l. nothing_none (λ o. o.row) wrong_kind (ops_of t) h.1.1.0 (op_at t i) (map_in (op_at t) (below_in (row_count t) l));
          stamps = λ i l. nothing_none (λ o. o.row) stray_opening (ops_of t) h.1.1.1.0 (op_at t i) (map_in (op_at t) (below_in (row_count t) l));
        },
        ltb-false room (length (file_of t)) (if_so_lem _ h.1.1.1.1.0),
      )

  none : (p : Op → Bool) → ((i : ℕ) → i < row_count t → p (op_at t i) ≡ false) → lowest_row p (ops_of t) ≡ None
  unfolding ops_of
  none p h = none_nothing (λ o. o.row) p (ops_of t) (λ o m. let k = in_map (op_at t) (up_to (row_count t)) m in rw k.2 (h k.0 (in_below (row_count t) k.1)))

  pub tabular_table : Tabular t → length (file_of t) ≤ room → NoFault (write_tests t room)
  unfolding write_tests ops_of
  tabular_table w r = (
    if_not _ (ap not (eq-eqb (length t % 5) 0 (omega (arith, w.size)))),
    (
      if_not _ (le-ltb largest_count (row_count t) w.few),
      (
        none wrong_kind w.kinds,
        (
          none stray_opening w.stamps,
          (if_not _ (le-ltb room (length (file_of t)) r), tt),
        ),
      ),
    ),
  )

pub write_tabular : (t out : List ℕ) → (write_answer t out).code ≡ 0 → Tabular t × (length (file_of t) ≤ length out)
unfolding write_answer
write_tabular t out e = table_tabular t (length out) (code_no_fault (write_tests t (length out)) (write_coded t (length out)) (passed (row_count t)) e)

pub tabular_write : (t out : List ℕ) → Tabular t → length (file_of t) ≤ length out → write_answer t out ≡ passed (row_count t)
unfolding write_answer
tabular_write t out w r = no_fault_answer (write_tests t (length out)) (passed (row_count t)) (tabular_table t (length out) w r)

-- The test of a record's kind as the code makes it.
pub kind_test : (bs : List ℕ) (n at size kind : ℕ) (b : Bool) → size ≡ field bs at 2 → kind ≡ field bs (at + 2) 2 →
    (not (eqb kind 1 || eqb kind 3 || eqb kind 2) || not (eqb size (body_length kind))) ≡ b → mismatched (field bs at 2) (operation (record_from bs at) n) ≡ b
unfolding mismatched wrong_kind is_write is_opening is_read record_from
kind_test bs n at size kind b s e h = rw (← e, ← s) h

-- at a record of a known length that is all there, the kind and the record's number are left
pub past_length : (bs : List ℕ) (n at rows : ℕ) → left bs at ≢ 1 → not (eqb (field bs at 2) 34 || eqb (field bs at 2) 18) ≡ false → 2 + field bs at 2 ≤ left bs at →
    first_met (record_tests bs n at) (passed rows)
    ≡ refused_or StrangeRecord (at_record at (mismatched (field bs at 2) (operation (record_from bs at) n))) (refused_or Overfull (at_record at (leb largest_count n)) (passed rows))
unfolding first_met record_tests
past_length bs n at rows one known long = rw (ne_eqb (left bs at) 1 one, known, le-ltb (left bs at) (2 + field bs at 2) long)

-- A test of a row as the code makes it.
module _ (p : Op → Bool) (t : List ℕ) (i : ℕ) (r : List ℕ) where
  pub row_hit : p (op_at t i) ≡ true → lowest_row p (map (op_at t) (i ∷ r)) ≡ Some i
  unfolding op_at
  row_hit h = first_cons_hit p (op_at t i) (map (op_at t) r) (λ o. o.row) h

  pub row_miss : p (op_at t i) ≡ false → lowest_row p (map (op_at t) (i ∷ r)) ≡ lowest_row p (map (op_at t) r)
  row_miss h = first_cons_miss p (op_at t i) (map (op_at t) r) (λ o. o.row) h

pub row_kind : (t : List ℕ) (i : ℕ) → not (eqb (cell t i 1) 1 || eqb (cell t i 1) 3 || eqb (cell t i 1) 2) ≡ wrong_kind (op_at t i)
unfolding wrong_kind is_write is_opening is_read op_at
row_kind t i = refl

-- Reading: the records, then the room.
module _ (bs table : List ℕ) where
  abbrev room : Test
  room = room_test (begun bs * 5) (length table)

  pub whole_read : Whole bs → begun bs * 5 ≤ length table → read_answer bs table ≡ passed (begun bs)
  unfolding read_answer read_tests
  whole_read w r =
      no_fault_answer (file_tests bs ++ (room ∷ [])) (passed (begun bs))
      (no_fault_append (file_tests bs) (room ∷ []) (whole_file bs w) (if_not _ (le-ltb (length table) (begun bs * 5) r), tt))

  pub read_whole : (read_answer bs table).code ≡ 0 → Whole bs × (begun bs * 5 ≤ length table)
  unfolding read_answer read_tests
  read_whole e =
      let coded : Coded (read_tests bs (length table)) = coded_append (file_tests bs) (room ∷ []) (file_coded bs) ((λ z. omega arith), tt) in
      let h = code_no_fault (read_tests bs (length table)) coded (passed (begun bs)) e in
      (file_whole bs (no_fault_left (file_tests bs) (room ∷ []) h), ltb-false (length table) (begun bs * 5) (if_so_lem _ (no_fault_right (file_tests bs) (room ∷ []) h).0))

  -- a table of 5,120 places has room for every file that passes
  pub read_room : 5120 ≤ length table → read_answer bs table ≡ file_answer bs
  unfolding read_answer read_tests
  read_room r = go (eqb (file_answer bs).code 0) refl
    where
      go : (b : Bool) → eqb (file_answer bs).code 0 ≡ b → read_answer bs table ≡ file_answer bs
      go true e =
          let w = code_whole bs (eqb-true (file_answer bs).code 0 e) in
          whole_read w (omega (arith, w.few)) ∙ sym (whole_answer bs w)
      go false e = met_stop (file_tests bs) (room ∷ []) (passed (begun bs)) refl (eqb-false (file_answer bs).code 0 e)
