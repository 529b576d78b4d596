-- From the rows of a screened register to the outcome: what the search takes, that an order fits the list, and what is lent.
-- Assumes nothing.
use Prim.Native.Nat.{ℕ, ◌-◌, ◌≤◌}
use mathlib.Core.Path.{◌≡◌, ap, ◌∙◌}
use mathlib.Core.List.{List}
use native.Mathlib.Omega.{arith}
use lib.ListN.{length, length-map}
use Rattle.lists.proofs.Pairs.{pairs_map}
use Rattle.lists.proofs.Cover.{no_longer_by}
use Rattle.history.specs.declared.Op.{Op}
use Rattle.history.specs.Table.{largest_count, history}
use Rattle.history.proofs.Rows.{rows_few}
use Rattle.methods.specs.Prepared.{prepared}
use Rattle.methods.specs.Zones.{order}
use Rattle.methods.specs.Mark.{Outcome, k_of, method, judged}
use Rattle.preparation.proofs.Rows.{history_rows}
use Rattle.meaning.specs.Marked.{Passes}
use Rattle.meaning.proofs.Methods.{Settles, settles_order, method_settles}
use Rattle.positions.specs.Columns.{Cols, op, ops}
use Rattle.placing.specs.declared.Search.{Search}
use Rattle.placing.specs.Searched.{between, Searched, is_stale, is_fresh, is_spent}
use Rattle.columns.specs.Rows.{Listed}
use Rattle.columns.specs.Made.{Made}
use Rattle.columns.proofs.Made.{prepared_rows}
use Rattle.columns.proofs.Lent.{rows_long}
use Rattle.searches.specs.Replies.{Fits, Replied}
use Rattle.searches.proofs.Answering.{between_long}
use Rattle.marker.specs.declared.Question.{Question}
use Rattle.marker.specs.Questions.{number}
use Rattle.marker.proofs.Asking.{asked_of}

module _ {t : List ℕ} {register : ℕ} {rows : List ℕ} (g : Listed t register rows) where
  -- the register's operations
  abbrev h : List Op
  h = history t register

  module _ (question : Question) where
    -- an order of the register is no longer than it
    order_few : (p : List Op) → (method (number question) (prepared h)).decision ≡ order p → length p ≤ length h
    order_few p e =
        let s : Settles (k_of (number question)) h (method (number question) (prepared h)).decision = method_settles g.screened (history_rows t register) (number question) (asked_of question) in
        go (rw e at s)
      where
        go : Settles (k_of (number question)) h (order p) → length p ≤ length h
        go (settles_order {o = o} q i) =
            omega (
              arith,
              ap length q,
              length-map p (λ x. x.row),
              length-map o (λ x. x.row),
              no_longer_by (λ x. x.row) (pairs_map i.pairs (λ x y k l b. b.apart)) h i.from,
            )

    -- and so it fits the list
    pub found_fits : {C : Cols} {allowance : ℕ} {places : List ℕ} {r : Search} → Made t rows C → Searched C allowance (method (number question)) places r → (list : List ℕ) →
        length rows ≤ length list → Fits places list r
    found_fits m (is_stale l s) list room = tt
    found_fits m (is_spent s) list room = tt
    found_fits {C} {allowance} {places} m (is_fresh {from} {to} l a b s) list room = (a, b, few)
      where
        few : to - from ≤ length list
        few =
            omega (
              arith,
              rows_long g,
              between_long places a b,
              length-map (between places from to) (op (prepared h)),
              order_few (ops (prepared h) (between places from to)) (ap (λ x. x.decision) (s (prepared h) (m.columns register g))),
            )

  -- THE OUTCOME, from what was found
  pub work_ends : {C : Cols} {places : List ℕ} {r : Search} (question allowance : ℕ) (list : List ℕ) (out : Outcome) → Made t rows C →
      Searched C allowance (method question) places r → Replied rows allowance places r list out → out ≡ judged (length h) allowance list (method question (prepared h))
  work_ends {C} question allowance list out m k f =
      f C (prepared h) (method question) (m.columns register g) (prepared_rows g) k
      ∙ ap (λ (n : ℕ). judged n allowance list (method question (prepared h))) (rows_long g)

-- What the marking of a register's rows takes, where it passes tests 1 to 10.
module _ (t : List ℕ) (register question : ℕ) (list : List ℕ) (p : Passes (length t) (history t register) question list) (rows : List ℕ) (g : Listed t register rows) where
  pub rows_few_listed : length rows ≤ largest_count
  rows_few_listed = omega (arith, rows_long g, rows_few t register, p.screened.few)

  pub rows_room : length rows ≤ length list
  rows_room = omega (arith, rows_long g, p.room)
