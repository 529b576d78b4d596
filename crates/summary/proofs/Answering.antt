-- The answer and the list, for each way through the call.
-- Assumes nothing.
use Prim.Native.Nat.{ℕ, ◌*◌, ◌%◌, ◌≤◌, ◌<◌}
use mathlib.Core.Path.{◌≡◌, refl, sym, ap, ◌∙◌}
use mathlib.Core.Logic.{◌≢◌}
use mathlib.Core.List.{List, flat_map}
use native.Mathlib.Omega.{arith}
use lib.ListN.{length}
use borrow.Author.Tests.{eq-eqb, ne_eqb, lt-ltb, le-ltb}
use Rattle.history.specs.declared.Answer.{Answer}
use Rattle.history.specs.Table.{largest_count, row_count}
use Rattle.history.specs.Answer.{refused, first_met, passed}
use Rattle.history.specs.declared.Code.TheVariants.{Ragged, Overfull, ShortList}
use Rattle.methods.specs.Mark.{written}
use Rattle.grouping.specs.Registers.{registers}
use Rattle.lists.proofs.Entries.{flat_long}
use Rattle.summary.specs.Summary.{entry, summary_of, summary_tests, summary_answer, summary_list}
use Rattle.summary.proofs.Entries.{entry_long}

module _ (t list : List ℕ) where
  -- five numbers a register
  pub summary_long : length (summary_of t) ≡ length (registers t) * 5
  unfolding summary_of
  summary_long = flat_long (entry t) 5 (entry_long t) (registers t)

  abbrev Left : Answer → List ℕ → Type 0
  Left a after = (a ≡ summary_answer t list) × (after ≡ summary_list t list)

  pub left_ragged : (a : Answer) → length t % 5 ≢ 0 → a ≡ refused Ragged 0 → Left a list
  unfolding summary_answer summary_list summary_tests first_met
  left_ragged a h e = (e ∙ sym (rw (ne_eqb (length t % 5) 0 h) refl), sym (rw (ne_eqb (length t % 5) 0 h) refl))

  module _ (h : length t % 5 ≡ 0) where
    pub left_overfull : (a : Answer) → largest_count < row_count t → a ≡ refused Overfull 0 → Left a list
    unfolding summary_answer summary_list summary_tests first_met
    left_overfull a l e =
        let p = eq-eqb (length t % 5) 0 h in
        let q = lt-ltb largest_count (row_count t) l in
        (e ∙ sym (rw (p, q) refl), sym (rw (p, q) refl))

    module _ (few : row_count t ≤ largest_count) (m : ℕ) (count : m ≡ length (registers t)) where
      pub left_short : (a : Answer) → length list < m * 5 → a ≡ refused ShortList 0 → Left a list
      unfolding summary_answer summary_list summary_tests first_met
      left_short a l e =
          let p = eq-eqb (length t % 5) 0 h in
          let q = le-ltb largest_count (row_count t) few in
          let r = lt-ltb (length list) (length (summary_of t)) (omega (arith, l, count, summary_long)) in
          (e ∙ sym (rw (p, q, r) refl), sym (rw (p, q, r) refl))

      pub left_passed : (a : Answer) (numbers after : List ℕ) → m * 5 ≤ length list → a ≡ passed m → numbers ≡ registers t →
          after ≡ written (flat_map (entry t) numbers) list → Left a after
      unfolding summary_answer summary_list summary_tests first_met summary_of
      left_passed a numbers after l e n k =
          let p = eq-eqb (length t % 5) 0 h in
          let q = le-ltb largest_count (row_count t) few in
          let r = le-ltb (length list) (length (flat_map (entry t) (registers t))) (omega (arith, l, count, flat_long (entry t) 5 (entry_long t) (registers t))) in
          (e ∙ ap passed count ∙ sym (rw (p, q, r) refl), k ∙ ap (λ (x : List ℕ). written (flat_map (entry t) x) list) n ∙ sym (rw (p, q, r) refl))
