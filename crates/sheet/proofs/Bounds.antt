-- How long the parts of a sheet are, whatever the numbers: the programs' buffers hold the whole.
-- Assumes nothing.
use Prim.Native.Nat.{ℕ, ◌+◌, ◌≤◌}
use mathlib.Core.Path.{◌≡◌, refl, sym, ap, ◌∙◌}
use mathlib.Core.Bool.{Bool, true, false}
use mathlib.Core.List.{List, ◌∷◌, ◌++◌}
use native.Mathlib.Omega.{arith}
use lib.Dec.{eqb}
use lib.ListN.{length, replicate, length-append, length-replicate}
use lib.Seq.{length_front, length-take-le}
use borrow.Author.Tests.{eqb-true, eqb-false}
use Rattle.history.specs.declared.Op.{Op}
use Rattle.history.specs.Table.{history, largest_count}
use Rattle.methods.specs.Mark.{Outcome, mark}
use Rattle.atomicity.specs.Check.{check}
use Rattle.marks.specs.Marks.{most_trials}
use Rattle.meaning.specs.Marked.{Marked, is_refused, is_spent, is_stale, is_fresh}
use Rattle.meaning.specs.Demand.{Demand}
use Rattle.meaning.proofs.Demand.{demand_3}
use Rattle.meaning.proofs.Outcomes.{marked?}
use Rattle.preparation.proofs.Rows.{history_rows}
use Rattle.lines.specs.Lines.{answers_of, check_line}
use Rattle.lines.proofs.Bounds.{check_bound, order_of_bound, answers_bound}
use Rattle.sheet.specs.Sheet.{heading, outcome_to, order_line, orders_of, page_of, sheet_of, exam_of}
use Rattle.sheet.proofs.Parts.{order_is}

-- a line of an order, and those of three
pub order_bound : (question : ℕ) (o : Outcome) → length o.list ≤ largest_count → length (order_line question o) ≤ 21532
order_bound question o h = rw (← order_is question o) (order_of_bound o.answer (question ∷ o.list) (omega arith))

pub orders_bound : (one two three : Outcome) → length one.list ≤ largest_count → length two.list ≤ largest_count → length three.list ≤ largest_count
    → length (orders_of one two three) ≤ 64596
unfolding orders_of
orders_bound one two three h i j =
    omega (arith, length-append (order_line 1 one ++ order_line 2 two) (order_line 3 three), length-append (order_line 1 one) (order_line 2 two), order_bound 1 one h, order_bound 2 two i, order_bound 3 three j)

-- a fresh mark's rows are the register's, and the list has a place for each
marked_fits : {size : ℕ} {h : List Op} {question allowance : ℕ} {list : List ℕ} {out : Outcome} → Marked size h question allowance list out → out.answer.code ≡ 0
    → (out.answer.rows ≡ length h) × (length h ≤ length list)
marked_fits (is_refused n z l) e = absurd (z e)
marked_fits (is_spent p l) e = absurd (omega (arith, e))
marked_fits (is_stale p l n) e = absurd (omega (arith, e))
marked_fits (is_fresh p l i) e = (refl, p.room)

module _ (t : List ℕ) (register question allowance : ℕ) where
  abbrev blank : List ℕ
  blank = replicate largest_count 0

  abbrev out : Outcome
  out = outcome_to t register question allowance

  fits : out.answer.code ≡ 0 → (out.answer.rows ≡ length (history t register)) × (length (history t register) ≤ length blank)
  unfolding outcome_to mark
  fits = marked_fits (marked? (length t) (history t register) question blank (history_rows t register) allowance)

  demanded : Demand t register question allowance blank out
  unfolding outcome_to
  demanded = demand_3 t register question allowance blank

  -- the list keeps its length, and the rows of a fresh mark are all in it
  pub outcome_long : length out.list ≡ largest_count
  outcome_long = go (eqb out.answer.code 0) refl ∙ length-replicate {A = ℕ} largest_count 0
    where
      go : (b : Bool) → eqb out.answer.code 0 ≡ b → length out.list ≡ length blank
      go true e =
          let w = demanded.order (eqb-true _ _ e) in
          ap length w.kept ∙ length_front blank w.order (length w.order) (sym (length-take-le (length w.order) blank (omega (arith, w.rows, (fits (eqb-true _ _ e)).1))))
      go false e = ap length (demanded.untouched (eqb-false _ _ e))

  pub outcome_fits : out.answer.code ≡ 0 → out.answer.rows ≤ largest_count
  outcome_fits e = omega (arith, fits e, length-replicate {A = ℕ} largest_count 0)

-- A sheet has at most 64,944 bytes.
pub sheet_bound : (t : List ℕ) (register allowance : ℕ) → length (sheet_of t register allowance) ≤ 64944
unfolding sheet_of page_of
sheet_bound t register allowance =
    let o : ℕ → Outcome = λ (q : ℕ). outcome_to t register q allowance in
    let long : (q : ℕ) → length (o q).list ≤ largest_count = λ (q : ℕ). omega (arith, outcome_long t register q allowance) in
    let answers = answers_of (o 1).answer (o 2).answer (o 3).answer in
    let orders = orders_of (o 1) (o 2) (o 3) in
    omega (arith, length-append (heading ++ answers) orders, length-append heading answers, answers_bound (o 1).answer (o 2).answer (o 3).answer, orders_bound (o 1) (o 2) (o 3) (long 1) (long 2) (long 3))

-- THE PROGRAMS' BUFFERS HOLD THE WHOLE
pub exam_bound : (t : List ℕ) (register k : ℕ) (list : List ℕ) → length (exam_of t register k list) ≤ 64993
unfolding exam_of
exam_bound t register k list =
    omega (arith, length-append (sheet_of t register most_trials) (check_line (check t register k list)), sheet_bound t register most_trials, check_bound (check t register k list))
