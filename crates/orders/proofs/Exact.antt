-- THE ORDER CHECK'S MEANING: code 0 exactly where the register passes the screening, k is not 0 and the list is a valid k-atomic total order.
-- Assumes nothing.
use Prim.Native.Nat.{ℕ, ◌≤◌, ◌<◌}
use mathlib.Core.Path.{◌≡◌, refl, sym, ap}
use mathlib.Core.Logic.{◌↔◌, ◌≢◌, ◌⊎◌, inl, inr}
use mathlib.Core.Bool.{Bool, true, false, cond, not}
use mathlib.Core.List.Memᴰ
use mathlib.Core.List.{List, ◌++◌, Memᴰ as In}
use native.Mathlib.Omega.{arith}
use borrow.Author.Tests.{not-false, ltb-false, le-ltb, eqb-false, ne_eqb}
use lib.Dec.{ltb, eqb}
use lib.ListN.{length, get_or}
use Rattle.std.specs.Prelude.{Some, None}
use Rattle.lists.specs.Lists.{up_to, any}
use Rattle.lists.proofs.Tests.{or_false, told_true, true_told, told_false, false_told}
use Rattle.lists.proofs.Ranges.{below_in, in_below}
use Rattle.lists.proofs.Pairs.{pairs_map}
use Rattle.lists.proofs.Cover.{in_at, at_in, cover, no_longer}
use Rattle.history.specs.Table.{RowOf, rows_of, history}
use Rattle.history.specs.Answer.{Test, passed}
use Rattle.history.specs.Screen.{tests}
use Rattle.history.proofs.Operations.{told_read}
use Rattle.history.proofs.Rows.{in_rows, rows_in_lem, rows_rise}
use Rattle.history.proofs.Refusals.{NoFault, Coded, coded_append, no_fault_append, no_fault_left, no_fault_right, code_no_fault, no_fault_answer}
use Rattle.history.proofs.Screened.{tests_coded, no_fault_asked, no_fault_screened, screened_no_fault}
use Rattle.atomicity.specs.Order.{placed, TotalOrder, Within, Atomic}
use Rattle.atomicity.specs.Check.{same_row, is_row, misfits, late, too_far, lowest_at, missing, order_tests, check, Accepted}
use Rattle.orders.proofs.Positions.{none_at, at_none, told_row, told_repeats, told_misfits, told_late, Near, told_near, told_far}

pub order_coded : (t : List ℕ) (register k : ℕ) (order : List ℕ) → Coded (order_tests t register k order)
unfolding order_tests
order_coded t register k order = omega arith

module _ (t : List ℕ) (register : ℕ) (order : List ℕ) where
  missing_none : missing t register order ≡ None → length (rows_of t register) ≤ length order
  unfolding missing
  missing_none e = go (ltb (length order) (length (rows_of t register))) refl e
    where
      go : (b : Bool) → ltb (length order) (length (rows_of t register)) ≡ b → cond b (Some (length order)) None ≡ None → length (rows_of t register) ≤ length order
      go true h f = let z : ◌≡◌ {A = ℕ} 0 1 = cc in absurd (omega arith)
      go false h f = ltb-false (length order) (length (rows_of t register)) h

  none_missing : length (rows_of t register) ≤ length order → missing t register order ≡ None
  unfolding missing
  none_missing h = rw (le-ltb (length order) (length (rows_of t register)) h)

  -- Where no position is a misfit and none is missing, the list is a total order; and the other way round.
  module _ (fits : lowest_at (misfits t register order) order ≡ None) where
    parts : (p : ℕ) → p < length order → (is_row t register (get_or order p 0) ≡ true) × (any (same_row order p) (up_to p) ≡ false)
    unfolding misfits
    parts p h =
        let f = or_false (not (is_row t register (get_or order p 0))) (any (same_row order p) (up_to p)) (none_at (misfits t register order) order fits p h) in
        (not-false _ f.0, f.1)

    pub rows_hold : (p : ℕ) → p < length order → RowOf t register (get_or order p 0)
    rows_hold p h = told_true (told_row t register (get_or order p 0)) (parts p h).0

    once_holds : (p q : ℕ) → p < q → q < length order → get_or order p 0 ≢ get_or order q 0
    once_holds p q l h same = told_false (told_repeats t order q) (parts q h).1 (p, below_in q l, same)

    pub total_holds : missing t register order ≡ None → TotalOrder t register order
    total_holds e =
        record {
          rows = rows_hold;
          once = once_holds;
          whole = λ i r. in_at (cover order (rows_of t register) (λ p h. rows_in_lem t register (rows_hold p h)) once_holds (missing_none e) (rows_in_lem t register r));
        }

  total_fits : TotalOrder t register order → lowest_at (misfits t register order) order ≡ None
  total_fits o = at_none (misfits t register order) order (λ p h. false_told (told_misfits t order p register) (go p h))
    where
      go : (p : ℕ) → p < length order → (RowOf t register (get_or order p 0) → ⊥) ⊎ ((q : ℕ) × In q (up_to p) × (get_or order q 0 ≡ get_or order p 0)) → ⊥
      go p h (inl n) = n (o.rows p h)
      go p h (inr (q, m, e)) = o.once q p (in_below p m) h e

  total_whole : TotalOrder t register order → missing t register order ≡ None
  total_whole o = none_missing (no_longer (pairs_map (rows_rise t register) (λ x y m n h e. omega arith)) order listed)
    where
      listed : (i : ℕ) → In i (rows_of t register) → In i order
      listed i m = let w = o.whole i (in_rows t register m) in Memᴰ.cast (sym w.2) (at_in order w.0 w.1)

  within : (k q : ℕ) → too_far k t order q ≡ false → (placed t order q).kind ≡ 2 → Within k t order q
  unfolding too_far
  within k q e r =
      let near = told_true (told_near t order q k) (not-false _ (rw (true_told (told_read (placed t order q)) r) at e)) in
      record { at = near.0; earlier = in_below q near.1; dictated = near.2.0; near = near.2.1 }

  no_fault_atomic : (k : ℕ) → NoFault (order_tests t register k order) → Atomic k t register order
  unfolding order_tests
  no_fault_atomic k f =
      record {
        valid =
            record {
              total = total_holds f.0 f.1.0;
              keeps = λ p q l h pre. told_false (told_late t order q) (none_at (late t order) order f.1.1.0 q h) (p, below_in q l, pre);
            };
        reads = λ q h r. within k q (none_at (too_far k t order) order f.1.1.1.0 q h) r;
      }

  atomic_no_fault : (k : ℕ) → Atomic k t register order → NoFault (order_tests t register k order)
  unfolding order_tests
  atomic_no_fault k a = (
    total_fits a.valid.total,
    (
      total_whole a.valid.total,
      (
        at_none (late t order) order (λ p h. false_told (told_late t order p) (λ w. a.valid.keeps w.0 p (in_below p w.1) h w.2)),
        (
          at_none (too_far k t order) order (λ p h. false_told (told_far t order p k) (λ w. w.1 (near p (a.reads p h w.0)))),
          tt,
        ),
      ),
    ),
  )
    where
      near : (p : ℕ) → Within k t order p → (q : ℕ) × In q (up_to p) × Near t order p k q
      near p w = (w.at, below_in p w.earlier, (w.dictated, w.near))

  module _ (k : ℕ) where
    abbrev first_nine : List Test
    first_nine = tests (length t) (history t register) (eqb k 0)

    abbrev last_three : List Test
    last_three = order_tests t register k order

    accepted : NoFault (first_nine ++ last_three) → Accepted k t register order
    accepted f =
        let early = no_fault_left first_nine last_three f in
        record {
          screened = no_fault_screened (length t) (history t register) (eqb k 0) early;
          asked = eqb-false k 0 (no_fault_asked (length t) (history t register) (eqb k 0) early);
          atomic = no_fault_atomic k (no_fault_right first_nine last_three f);
        }

    no_fault : Accepted k t register order → NoFault (first_nine ++ last_three)
    no_fault a =
        no_fault_append
        first_nine
        last_three
        (screened_no_fault (length t) (history t register) (eqb k 0) (ne_eqb k 0 a.asked) a.screened)
        (atomic_no_fault k a.atomic)

    pub check_exactly : ((check t register k order).code ≡ 0) ↔ Accepted k t register order
    unfolding check
    check_exactly =
        let coded = coded_append first_nine last_three (tests_coded (length t) (history t register) (eqb k 0)) (order_coded t register k order) in
        let rows = passed (length (history t register)) in (
          λ e. accepted (code_no_fault (first_nine ++ last_three) coded rows e),
          λ a. ap (λ x. x.code) (no_fault_answer (first_nine ++ last_three) rows (no_fault a)),
        )
