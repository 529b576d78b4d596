-- The loop over the rows of a table that counts a register's: what one row more does to the count.
-- Assumes nothing.
use Prim.Native.Nat.{ℕ, ◌+◌, ◌≤◌}
use mathlib.Core.Path.{◌≡◌, refl}
use mathlib.Core.Bool.{Bool, true, false}
use mathlib.Core.List.{List, ◌∷◌, map}
use native.Mathlib.Omega.{arith}
use lib.ListN.{length}
use Rattle.lists.specs.Lists.{one_if, put, keep, up_to}
use Rattle.history.specs.declared.Op.{Op}
use Rattle.history.specs.Table.{row_count, op_at, bears, rows_of, history}

-- the operations of the register in some of the rows
abbrev pub ops_at : List ℕ → ℕ → List ℕ → List Op
ops_at t register xs = map (op_at t) (keep (bears t register) xs)

pub history_ops : (t : List ℕ) (register : ℕ) → history t register ≡ ops_at t register (up_to (row_count t))
unfolding history rows_of
history_ops t register = refl

pub one_if_small : (b : Bool) → one_if b ≤ 1
one_if_small true = omega arith
one_if_small false = omega arith

module _ (t : List ℕ) (register i : ℕ) (r : List ℕ) where
  pub count_cons : length (ops_at t register (i ∷ r)) ≡ one_if (bears t register i) + length (ops_at t register r)
  unfolding keep put
  count_cons = go (bears t register i)
    where
      go : (b : Bool) → length (map (op_at t) (put b i (keep (bears t register) r))) ≡ one_if b + length (ops_at t register r)
      go true = omega arith
      go false = omega arith
