-- Orders of a register (document 01, "The row"; 000, section II.A): total, valid, k-atomic. An order is a list of row numbers, earliest first.
-- Assumes nothing.
use Rattle.std.specs.Prelude.{ℕ, suc, ◌-◌, ◌<◌, ◌≡◌, ◌≢◌, List, length, get_or, take, drop}
use Rattle.lists.specs.Lists.{keep}
use Rattle.history.specs.declared.Op.{Op}
use Rattle.history.specs.Table.{RowOf, op_at, is_write, Precedes, Dictates}

-- the operation at position p of the order
abbrev pub placed : List ℕ → List ℕ → ℕ → Op
placed t order p = op_at t (get_or order p 0)

-- Each row of the register, exactly once, and nothing else (01, "The row").
pub record TotalOrder (t : List ℕ) (register : ℕ) (order : List ℕ) : Type 0 where
  pub rows : (p : ℕ) → p < length order → RowOf t register (get_or order p 0)
  pub once : (p q : ℕ) → p < q → q < length order → get_or order p 0 ≢ get_or order q 0
  pub whole : (i : ℕ) → RowOf t register i → (p : ℕ) × (p < length order) × (get_or order p 0 ≡ i)

-- It keeps precedence: no row precedes one that is listed earlier (01, "The row").
pub record Valid (t : List ℕ) (register : ℕ) (order : List ℕ) : Type 0 where
  pub total : TotalOrder t register order
  pub keeps : (p q : ℕ) → p < q → q < length order → ¬ Precedes (placed t order q) (placed t order p)

-- the number of writes at the positions behind p and before q
unfoldable pub writes_between : List ℕ → List ℕ → ℕ → ℕ → ℕ
writes_between t order p q = length (keep (λ i. is_write (op_at t i)) (take (q - suc p) (drop (suc p) order)))

-- The read at position q follows its dictating write, at some position p, with at most k - 1 other writes between (01, "The row").
pub record Within (k : ℕ) (t : List ℕ) (order : List ℕ) (q : ℕ) : Type 0 where
  pub at : ℕ
  pub earlier : at < q
  pub dictated : Dictates (placed t order at) (placed t order q)
  pub near : writes_between t order at q < k

-- A valid k-atomic total order (01, "The row"; 000, section II.B).
pub record Atomic (k : ℕ) (t : List ℕ) (register : ℕ) (order : List ℕ) : Type 0 where
  pub valid : Valid t register order
  pub reads : (q : ℕ) → q < length order → (placed t order q).kind ≡ 2 → Within k t order q
