-- The fields of the answers, and what they say.
-- Assumes nothing.
use Prim.Native.Nat.{ℕ, ◌+◌, ◌*◌, ◌-◌, ◌%◌, ◌≤◌, ◌<◌}
use mathlib.Core.Path.{◌≡◌, refl, sym, ap, ◌∙◌}
use mathlib.Core.Logic.{◌≢◌}
use mathlib.Core.Bool.{true, false}
use mathlib.Core.List.{List, [], ◌++◌, flat_map, append-nil, append_assoc}
use native.Mathlib.Omega.{arith}
use lib.ListN.{length, get_or, take, drop, length-drop, length-replicate, drop_of_length-le}
use lib.Seq.{sets, sets-eq, take_all, drop-drop}
use borrow.Author.Tests.{eq-eqb, ne_eqb, lt-ltb, le-ltb, ltb-false}
use borrow.Rule.Slice.PartMut.{mid_of, put_mid}
use Rattle.history.specs.declared.Answer.{Answer}
use Rattle.history.specs.Table.{largest_count, row_count, history}
use Rattle.history.specs.Answer.{refused, first_met, passed, numbers, list_after}
use Rattle.history.specs.declared.Code.TheVariants.{Ragged, Overfull, NoSuchQuestion, ShortList}
use Rattle.history.proofs.Rows.{rows_few}
use Rattle.history.proofs.Refusals.{if_so_lem, code_no_fault}
use Rattle.methods.specs.Mark.{no_question, written, mark}
use Rattle.marker.specs.declared.Question.{Question}
use Rattle.marker.specs.Questions.{number}
use Rattle.marker.proofs.Asking.{asked_is}
use Rattle.marks.specs.Marks.{answer_to}
use Rattle.marks.proofs.Places.{same_answer}
use Rattle.marks.proofs.Saying.{places, answer_said, never_ten}
use Rattle.lists.proofs.Entries.{flat_at, flat_part}
use Rattle.roads.specs.Answers.{fields, answers_of, answers_tests, answers_answer, answers_list, Single, Each}

-- an answer written from a place of the list on
pub put_is : (a : Answer) (list : List ℕ) (place : ℕ) → place + 4 ≤ length list → (new : List ℕ) → new ≡ list_after a (mid_of place (length list - place) list) →
    put_mid place (length list - place) list new ≡ sets list place (numbers a)
unfolding list_after
put_is a list place room new e =
    ap (λ (x : List ℕ). take place list ++ (x ++ drop (length list - place) (drop place list))) (e ∙ after)
    ∙ ap (λ (x : List ℕ). take place list ++ ((numbers a ++ drop (place + 4) list) ++ x)) none
    ∙ ap (λ (x : List ℕ). take place list ++ x) (append-nil (numbers a ++ drop (place + 4) list))
    ∙ sym (append_assoc (take place list) (numbers a) (drop (place + 4) list))
    ∙ sym (sets-eq (numbers a) list place room)
  where
    part : mid_of place (length list - place) list ≡ drop place list
    part = take_all (length list - place) (drop place list) (omega (arith, length-drop place list))

    none : drop (length list - place) (drop place list) ≡ []
    none = drop_of_length-le (drop place list) {i = length list - place} (omega (arith, length-drop place list))

    after : list_after a (mid_of place (length list - place) list) ≡ numbers a ++ drop (place + 4) list
    after =
        ap (list_after a) part
        ∙ rw (le-ltb (length (drop place list)) 4 (omega (arith, length-drop place list))) refl
        ∙ ap (λ (x : List ℕ). numbers a ++ x) (drop-drop 4 place list)

pub fields_long : (t : List ℕ) (question allowance register : ℕ) → length (fields t question allowance register) ≡ 4
unfolding fields
fields_long t question allowance register = refl

-- the fields of an answer, stored
pub fields_stored : (t : List ℕ) (register question allowance place : ℕ) (list next : List ℕ) (one : Answer) → one ≡ answer_to t register question allowance →
    next ≡ sets list place (numbers one) → next ≡ sets list place (fields t question allowance register)
unfolding fields
fields_stored t register question allowance place list next one e n = n ∙ ap (λ (x : Answer). sets list place (numbers x)) e

-- a number that is a question's is not refused
pub asked_for : (question : ℕ) (q : Question) → number q ≡ question → no_question question ≡ false
asked_for question q e = sym (asked_is q ∙ ap no_question e)

-- The call, for each way through.
module _ (t registers : List ℕ) (question allowance : ℕ) (list : List ℕ) where
  abbrev Left : Answer → List ℕ → Type 0
  Left a after = (a ≡ answers_answer t registers question list) × (after ≡ answers_list t registers question allowance list)

  pub left_ragged : (a : Answer) → length t % 5 ≢ 0 → a ≡ refused Ragged 0 → Left a list
  unfolding answers_answer answers_list answers_tests first_met
  left_ragged a h e = let p = ne_eqb (length t % 5) 0 h in (e ∙ sym (rw p refl), sym (rw p refl))

  module _ (h : length t % 5 ≡ 0) where
    pub left_overfull : (a : Answer) → largest_count < row_count t → a ≡ refused Overfull 0 → Left a list
    unfolding answers_answer answers_list answers_tests first_met
    left_overfull a l e =
        let p = eq-eqb (length t % 5) 0 h in
        let q = lt-ltb largest_count (row_count t) l in
        (e ∙ sym (rw (p, q) refl), sym (rw (p, q) refl))

    module _ (few : row_count t ≤ largest_count) where
      pub left_unasked : (a : Answer) → no_question question ≡ true → a ≡ refused NoSuchQuestion 0 → Left a list
      unfolding answers_answer answers_list answers_tests first_met
      left_unasked a n e =
          let p = eq-eqb (length t % 5) 0 h in
          let q = le-ltb largest_count (row_count t) few in
          (e ∙ sym (rw (p, q, n) refl), sym (rw (p, q, n) refl))

      module _ (asked : no_question question ≡ false) where
        pub left_short : (a : Answer) → length list < length registers * 4 → a ≡ refused ShortList 0 → Left a list
        unfolding answers_answer answers_list answers_tests first_met
        left_short a l e =
            let p = eq-eqb (length t % 5) 0 h in
            let q = le-ltb largest_count (row_count t) few in
            let r = lt-ltb (length list) (length registers * 4) l in
            (e ∙ sym (rw (p, q, asked, r) refl), sym (rw (p, q, asked, r) refl))

        pub left_passed : (a : Answer) (after : List ℕ) → length registers * 4 ≤ length list → a ≡ passed 0 → after ≡ written (answers_of t registers question allowance) list → Left a after
        unfolding answers_answer answers_list answers_tests first_met
        left_passed a after l e k =
            let p = eq-eqb (length t % 5) 0 h in
            let q = le-ltb largest_count (row_count t) few in
            let r = le-ltb (length list) (length registers * 4) l in
            (e ∙ sym (rw (p, q, asked, r) refl), k ∙ sym (rw (p, q, asked, r) refl))

  -- WHAT THE NUMBERS OF EACH REGISTER ARE AND SAY
  module _ (a : Answer) (after : List ℕ) (left : Left a after) (z : a.code ≡ 0) (i : ℕ) (h : i < length registers) where
    abbrev register : ℕ
    register = get_or registers i 0

    abbrev own : List ℕ
    own = fields t question allowance register

    stored : after ≡ written (answers_of t registers question allowance) list
    unfolding answers_list
    stored = left.1 ∙ rw (eq-eqb (answers_answer t registers question list).code 0 (sym (ap (λ x. x.code) left.0) ∙ z)) refl

    -- the table has no more rows than the list inside of a single call has places, and so every list with a place for each row does as well
    few : row_count t ≤ largest_count
    unfolding answers_answer answers_tests
    few =
        let xs = answers_tests (length t) (length registers) question (length list) in
        ltb-false largest_count (row_count t) (if_so_lem _ (code_no_fault xs (omega arith) (passed 0) (sym (ap (λ x. x.code) left.0) ∙ z)).1.0)

    any_list : (l : List ℕ) → length (history t register) ≤ length l → answer_to t register question allowance ≡ (mark t register question allowance l).answer
    unfolding answer_to mark
    any_list l room =
        same_answer (history t register) places l (omega (arith, rows_few t register, few, length-replicate {A = ℕ} largest_count 0)) room (length t) question allowance

    -- what is behind the numbers of all
    abbrev rest : List ℕ
    rest = drop (length (flat_map (fields t question allowance) registers)) list

    part : take 4 (drop (i * 4) after) ≡ own
    unfolding answers_of
    part =
        ap (λ (m : List ℕ). take 4 (drop (i * 4) m)) stored
        ∙ flat_part (fields t question allowance) 4 (fields_long t question allowance) 0 registers rest i h

    code_at : get_or after (i * 4) 0 ≡ (answer_to t register question allowance).code
    unfolding answers_of fields
    code_at =
        let e : i * 4 ≡ i * 4 + 0 = omega arith in
        ap (λ (k : ℕ). get_or after k 0) e
        ∙ ap (λ (m : List ℕ). get_or m (i * 4 + 0) 0) stored
        ∙ flat_at (fields t question allowance) 4 (fields_long t question allowance) 0 registers rest i 0 h (omega arith)

    pub single : Single t register question allowance after i
    unfolding fields
    single =
        record {
          single = λ l k. part ∙ ap (λ (x : Answer). numbers x) (any_list l k);
          said = λ f. rw code_at (answer_said t register question allowance f);
          room = λ e. never_ten t register question allowance (sym code_at ∙ e);
        }

  -- THE CONTRACT, from the answer and the list after the call
  pub promised : (a : Answer) (after : List ℕ) → Left a after →
      (a ≡ answers_answer t registers question list)
      × ((after ≡ answers_list t registers question allowance list) × (a.code ≡ 0 → Each t registers question allowance after))
  promised a after left = (left.0, (left.1, single a after left))
