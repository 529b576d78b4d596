-- LBT decides 2-atomicity of a prepared history (000, section III): with an order it gives a valid 2-atomic one, with none there is none, and
-- it takes at most 2W - 1 trials, which is never more than W (W + 1) / 2.
-- Assumes nothing.
use Prim.Native.Nat.{ℕ, zero, suc, ◌+◌, ◌*◌, ◌-◌, ◌/◌, ◌≤◌}
use mathlib.Core.Path.{◌≡◌}
use mathlib.Core.List.{List}
use native.Mathlib.Omega.{arith}
use native.Mathlib.Nat.{suc-mul, mul-suc}
use Rattle.history.specs.declared.Op.{Op}
use Rattle.methods.specs.Place.{write_count}
use Rattle.methods.specs.Lbt.{Walk, stale, fresh, decided, lbt}
use Rattle.witnesses.specs.Histories.{Prepared}
use Rattle.witnesses.specs.Orders.{Orders}
use Rattle.witnesses.specs.Decides.{no_order, an_order}
use Rattle.witnesses.proofs.Positions.{orders_witness}
use Rattle.walks.specs.Lbt.{Says, LbtDecides, FewTrials}
use Rattle.walks.proofs.Rounds.{Walks, walk?}
use Rattle.walks.proofs.Complete.{complete}
use Rattle.walks.proofs.Sound.{sound}
use Rattle.walks.proofs.Trials.{trials_bound}

module _ {H : List Op} (g : Prepared H) where
  walks : Walks H (lbt H)
  walks = walk? (write_count H) H g (omega arith)

  -- LBT'S THEOREM
  pub lbt_decides : LbtDecides H (lbt H)
  unfolding decided
  lbt_decides = go (lbt H) (sound g walks) (λ o h. complete _ g (orders_witness g.proper h) walks)
    where
      go : (w : Walk) → Says H w → ((o : List Op) → Orders 2 H o → (t : ℕ) × (p : List Op) × (w ≡ fresh t p)) → LbtDecides H w
      go (stale t) s f = no_order (λ o h. let c = f o h in let z : ◌≡◌ {A = ℕ} 0 1 = cc in omega arith)
      go (fresh t p) s f = an_order s

  pub few_trials : FewTrials H (lbt H)
  few_trials = trials_bound g walks

four_times : (n : ℕ) → 4 * n ≤ n * suc n + 2
four_times zero = omega arith
four_times (suc zero) = omega arith
four_times (suc (suc n)) = omega (arith, four_times (suc n), suc-mul (suc n) (suc (suc (suc n))), mul-suc (suc n) (suc (suc n)))

pub within_half : (n : ℕ) → 2 * n - 1 ≤ n * suc n / 2
within_half n = omega (arith, four_times n)
