-- The method of each question decides the prepared history of a screened register, and so the register as it is, in a bounded number of trials.
-- Assumes nothing.
use Prim.Native.Nat.{ℕ, ◌*◌, ◌-◌, ◌≤◌}
use mathlib.Core.Path.{◌≡◌, refl}
use mathlib.Core.Logic.{◌⊎◌, inl, inr}
use mathlib.Core.Bool.{Bool, true, false, cond}
use mathlib.Core.List.{List}
use native.Mathlib.Omega.{arith}
use lib.Dec.{eqb}
use borrow.Author.Tests.{eqb-true}
use Rattle.history.specs.declared.Op.{Op}
use Rattle.history.specs.Screen.{Screened}
use Rattle.methods.specs.Prepared.{prepared}
use Rattle.methods.specs.Place.{write_count}
use Rattle.methods.specs.Zones.{Decision, none, order, zones}
use Rattle.methods.specs.Lbt.{trials, lbt}
use Rattle.methods.specs.Fzf.{fzf}
use Rattle.methods.specs.Mark.{k_of, untried, walked, method, row_numbers}
use Rattle.witnesses.specs.Histories.{Prepared}
use Rattle.witnesses.specs.Orders.{Orders}
use Rattle.witnesses.specs.Decides.{Decides, no_order, an_order}
use Rattle.clusters.proofs.One.{zones_decides}
use Rattle.viability.proofs.Two.{fzf_decides}
use Rattle.walks.proofs.Decides.{lbt_decides, few_trials, within_half}
use Rattle.meaning.specs.Marked.{Enough, trials_of}
use Rattle.preparation.specs.Claims.{RowsRise}
use Rattle.preparation.proofs.Counts.{keeps_writes}
use Rattle.preparation.proofs.Shorten.{prepared_history, keeps_orders}

-- Zones, LBT and FZF, by their question.
method_decides : (question : ℕ) (H : List Op) → (question ≡ 1) ⊎ (question ≡ 2) ⊎ (question ≡ 3) → Prepared H → Decides (k_of question) H (method question H).decision
unfolding method
method_decides question H (inl e) g = rw e (zones_decides g)
method_decides question H (inr (inl e)) g = rw e (lbt_decides g)
method_decides question H (inr (inr e)) g = rw e (fzf_decides g)

-- What is decided of a history under its own stamps: the rows are those of an order, or there is none.
pub data Settles (k : ℕ) (h : List Op) : Decision → Type 0 where
  settles_none : ((o : List Op) → Orders k h o → ⊥) → Settles k h none
  settles_order : {p o : List Op} → row_numbers p ≡ row_numbers o → Orders k h o → Settles k h (order p)

module _ {size : ℕ} {h : List Op} (s : Screened size h) (a : RowsRise h) (question : ℕ) where
  pub method_settles : (question ≡ 1) ⊎ (question ≡ 2) ⊎ (question ≡ 3) → Settles (k_of question) h (method question (prepared h)).decision
  method_settles asked = go _ (method_decides question (prepared h) asked (prepared_history s a))
    where
      go : (d : Decision) → Decides (k_of question) (prepared h) d → Settles (k_of question) h d
      go none (no_order n) = settles_none (λ o k. n _ ((keeps_orders s a _ _).1 (o, refl, k)).2)
      go (order p) (an_order k) =
          let (o, e, i) = (keeps_orders s a _ _).0 (p, refl, k) in
          settles_order {p = p} {o = o} e i

  -- 2W - 1 trials are always enough, and W (W + 1) / 2 are no fewer
  pub always_enough : trials_of h question ≤ 2 * write_count h - 1
  unfolding method
  always_enough = go (eqb question 1) (eqb question 2)
    where
      go : (b c : Bool) → (cond b (untried (zones (prepared h))) (cond c (walked (lbt (prepared h))) (untried (fzf (prepared h))))).trials ≤ 2 * write_count h - 1
      go true c = omega arith
      go false true = omega (arith, few_trials (prepared_history s a), keeps_writes h)
      go false false = omega arith

  pub enough : {allowance : ℕ} → Enough h question allowance → trials_of h question ≤ allowance
  unfolding method
  enough {allowance} f = go (eqb question 1) (eqb question 2) refl
    where
      go : (b c : Bool) → eqb question 2 ≡ c → (cond b (untried (zones (prepared h))) (cond c (walked (lbt (prepared h))) (untried (fzf (prepared h))))).trials ≤ allowance
      go true c e = omega arith
      go false true e = omega (arith, few_trials (prepared_history s a), keeps_writes h, within_half (write_count h), f (eqb-true question 2 e))
      go false false e = omega arith
