-- DEMAND 3, proved of the defined marking call (`demand_3`).
-- Assumes nothing.
use Prim.Native.Nat.{ℕ}
use mathlib.Core.Path.{◌≡◌, refl, ◌∙◌}
use mathlib.Core.Logic.{inl, inr}
use mathlib.Core.List.{List, ◌++◌}
use native.Mathlib.Omega.{arith}
use lib.ListN.{length, length-map, drop}
use Rattle.lists.specs.Pairs.{Pairs}
use Rattle.lists.proofs.Cover.{no_longer_by}
use Rattle.lists.proofs.Pairs.{pairs_map}
use Rattle.history.specs.declared.Op.{Op}
use Rattle.history.specs.Table.{history}
use Rattle.history.specs.Screen.{Screened}
use Rattle.methods.specs.Mark.{Outcome, k_of, mark, row_numbers}
use Rattle.witnesses.specs.Histories.{Apart}
use Rattle.witnesses.specs.Orders.{Orders}
use Rattle.meaning.specs.Marked.{Marked, is_refused, is_spent, is_stale, is_fresh}
use Rattle.meaning.specs.Demand.{Allowed, SomeOrder, NoOrder, Written, Demand}
use Rattle.preparation.proofs.Rows.{history_rows, orders_of_rows}
use Rattle.meaning.proofs.Methods.{enough}
use Rattle.meaning.proofs.Outcomes.{marked?, same_outcome}

-- an order has as many operations as the history
order_length : {k : ℕ} {H o : List Op} → Pairs Apart H → Orders k H o → length o ≡ length H
order_length {H = H} {o = o} a h =
    omega (
      arith,
      no_longer_by (λ x. x.row) (pairs_map h.pairs (λ x y m n b. b.apart)) H h.from,
      no_longer_by (λ x. x.row) a o h.into,
    )

module _ (t : List ℕ) (register question allowance : ℕ) (list : List ℕ) where
  abbrev h : List Op
  h = history t register

  abbrev k : ℕ
  k = k_of question

  rows_apart : Pairs Apart h
  rows_apart = pairs_map (history_rows t register) (λ x y m n l e. omega arith)

  written : {o : List Op} → Orders k h o → Written t register question list (row_numbers o ++ drop (length (row_numbers o)) list)
  written {o} i =
      record {
        order = row_numbers o;
        atomic = (orders_of_rows t register k _).0 (_, refl, i);
        rows = length-map o (λ x. x.row) ∙ order_length rows_apart i;
        kept = refl;
      }

  some : {o : List Op} → Orders k h o → SomeOrder t register question
  some {o} i = (row_numbers o, (orders_of_rows t register k _).0 (_, refl, i))

  none : Screened (length t) h → ((o : List Op) → Orders k h o → ⊥) → NoOrder t register question
  none s n l a = n _ ((orders_of_rows t register k l).1 s a).2

  demand : (out : Outcome) → out ≡ mark t register question allowance list → Marked (length t) h question allowance list out → Demand t register question allowance list out
  unfolding mark
  demand out e (is_refused {a = a} n z l) =
      record {
        decided = λ r f. absurd (n r);
        fresh_exactly = λ r f. absurd (n r);
        stale_exactly = λ r f. absurd (n r);
        order = λ c. absurd (z c);
        untouched = λ c. refl;
        no_order = λ c. absurd (l.1 c);
        smaller = λ r. absurd (n r);
        spent_exactly = λ r. absurd (n r);
        counted = λ r. absurd (n r);
        neither = λ r. (z, l.1);
      }
  demand out e (is_spent p l) =
      record {
        decided = λ r f. absurd (over f);
        fresh_exactly = λ r f. absurd (over f);
        stale_exactly = λ r f. absurd (over f);
        order = λ c. absurd (omega (arith, c));
        untouched = λ c. refl;
        no_order = λ c. absurd (omega (arith, c));
        smaller = λ r n f. inr refl;
        spent_exactly = λ r. (λ c. l, λ i. refl);
        counted = λ r c. absurd (c refl);
        neither = λ r. absurd (r p);
      }
    where
      over : Allowed t register question allowance → ⊥
      over f = omega (arith, l, enough p.screened (history_rows t register) question f)
  demand out e (is_stale p l n) =
      record {
        decided = λ r f. inr refl;
        fresh_exactly = λ r f. (λ c. absurd (omega (arith, c)), λ s. absurd (none p.screened n s.0 s.1));
        stale_exactly = λ r f. (λ c. none p.screened n, λ s. refl);
        order = λ c. absurd (omega (arith, c));
        untouched = λ c. refl;
        no_order = λ c. none p.screened n;
        smaller = λ r m f. inl (e ∙ same_outcome (length t) h question list l (enough p.screened (history_rows t register) question f));
        spent_exactly = λ r. (λ c. absurd (omega (arith, c)), λ i. absurd (omega arith));
        counted = λ r c. refl;
        neither = λ r. absurd (r p);
      }
  demand out e (is_fresh {o = o} p l i) =
      record {
        decided = λ r f. inl refl;
        fresh_exactly = λ r f. (λ c. some i, λ s. refl);
        stale_exactly = λ r f. (λ c. absurd (omega (arith, c)), λ n. absurd (n (row_numbers o) ((orders_of_rows t register k _).0 (_, refl, i))));
        order = λ c. written i;
        untouched = λ c. absurd (c refl);
        no_order = λ c. absurd (omega (arith, c));
        smaller = λ r m f. inl (e ∙ same_outcome (length t) h question list l (enough p.screened (history_rows t register) question f));
        spent_exactly = λ r. (λ c. absurd (omega (arith, c)), λ j. absurd (omega arith));
        counted = λ r c. refl;
        neither = λ r. absurd (r p);
      }

  -- DEMAND 3
  pub demand_3 : Demand t register question allowance list (mark t register question allowance list)
  unfolding mark
  demand_3 = demand _ refl (marked? (length t) h question list (history_rows t register) allowance)
