-- What the conditions of the order check tell of a position.
-- Assumes nothing.
use Prim.Native.Nat.{ℕ, ◌<◌}
use mathlib.Core.Path.{◌≡◌}
use mathlib.Core.Logic.{◌⊎◌}
use mathlib.Core.Bool.{Bool, false}
use mathlib.Core.List.{List, Memᴰ as In}
use lib.ListN.{length, get_or}
use Rattle.std.specs.Prelude.{None}
use Rattle.lists.specs.Lists.{up_to, any}
use Rattle.lists.proofs.Tests.{Told, told_as, told_not, told_and, told_or, told_ltb, told_eqb}
use Rattle.lists.proofs.Members.{told_any, nothing_none, none_nothing}
use Rattle.lists.proofs.Ranges.{below_in, in_below}
use Rattle.history.specs.Table.{row_count, RowOf, Precedes, Dictates}
use Rattle.history.proofs.Operations.{told_read, told_precedes, told_dictates}
use Rattle.history.proofs.Rows.{told_bears}
use Rattle.atomicity.specs.Order.{placed, writes_between}
use Rattle.atomicity.specs.Check.{same_row, precedes_at, near_at, is_row, misfits, late, too_far, lowest_at}

-- no position meets the condition: as the search says it, and for each position
pub none_at : (f : ℕ → Bool) (order : List ℕ) → lowest_at f order ≡ None → (p : ℕ) → p < length order → f p ≡ false
none_at f order e p h = nothing_none (λ q. q) f (up_to (length order)) e p (below_in (length order) h)

pub at_none : (f : ℕ → Bool) (order : List ℕ) → ((p : ℕ) → p < length order → f p ≡ false) → lowest_at f order ≡ None
at_none f order h = none_nothing (λ q. q) f (up_to (length order)) (λ p m. h p (in_below (length order) m))

pub told_row : (t : List ℕ) (register i : ℕ) → Told (RowOf t register i) (is_row t register i)
unfolding is_row
told_row t register i =
    told_as (λ h. record { exists = h.0; bears = h.1 }) (λ r. (r.exists, r.bears)) (told_and (told_ltb i (row_count t)) (told_bears t register i))

module _ (t order : List ℕ) (p : ℕ) where
  pub told_repeats : Told ((q : ℕ) × In q (up_to p) × (get_or order q 0 ≡ get_or order p 0)) (any (same_row order p) (up_to p))
  unfolding same_row
  told_repeats = told_any (same_row order p) (up_to p) (λ q. told_eqb (get_or order q 0) (get_or order p 0))

  pub told_misfits : (register : ℕ) →
      Told ((RowOf t register (get_or order p 0) → ⊥) ⊎ ((q : ℕ) × In q (up_to p) × (get_or order q 0 ≡ get_or order p 0))) (misfits t register order p)
  unfolding misfits
  told_misfits register = told_or (told_not (told_row t register (get_or order p 0))) told_repeats

  pub told_late : Told ((q : ℕ) × In q (up_to p) × Precedes (placed t order p) (placed t order q)) (late t order p)
  unfolding late precedes_at
  told_late = told_any (precedes_at t order p) (up_to p) (λ q. told_precedes (placed t order p) (placed t order q))

  -- the dictating write of the read at p stands at q with fewer than k writes between
  abbrev pub Near : ℕ → ℕ → Type 0
  Near k q = Dictates (placed t order q) (placed t order p) × (writes_between t order q p < k)

  pub told_near : (k : ℕ) → Told ((q : ℕ) × In q (up_to p) × Near k q) (any (near_at k t order p) (up_to p))
  unfolding near_at
  told_near k =
      told_any (near_at k t order p) (up_to p) (λ q. told_and (told_dictates (placed t order q) (placed t order p)) (told_ltb (writes_between t order q p) k))

  pub told_far : (k : ℕ) → Told (((placed t order p).kind ≡ 2) × (((q : ℕ) × In q (up_to p) × Near k q) → ⊥)) (too_far k t order p)
  unfolding too_far
  told_far k = told_and (told_read (placed t order p)) (told_not (told_near k))
