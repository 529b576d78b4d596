-- What the marks, the orders and the check on a sheet say.
-- Assumes nothing.
use Prim.Native.Nat.{ℕ}
use mathlib.Core.List.{List}
use lib.ListN.{replicate}
use Rattle.history.specs.Table.{largest_count}
use Rattle.meaning.proofs.Demand.{demand_3}
use Rattle.orders.proofs.Exact.{check_exactly}
use Rattle.sheet.specs.Sheet.{outcome_to, Shown, Told}

pub shown : (t : List ℕ) (register allowance : ℕ) → Shown t register allowance
unfolding outcome_to
shown t register allowance question = demand_3 t register question allowance (replicate largest_count 0)

pub told : (t : List ℕ) (register k : ℕ) (list : List ℕ) → Told t register k list
told t register k list = check_exactly t register list k
