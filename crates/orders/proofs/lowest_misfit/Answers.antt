-- No row is marked at first.
use Prim.Native.Nat.{ℕ}
use lib.ListN.{get_or-replicate}
use Rattle.orders.proofs.lowest_misfit.Goals as goal

pub lowest_misfit_with-requires : goal.lowest_misfit_with-requires
lowest_misfit_with-requires c = record { table_in_bounds = c.requires; by_index = λ i h. get_or-replicate {A = ℕ} 1024 i 0 0 h }
