-- The loop of the pass over a zone list: what the whole decides is what the zones from here on do.
-- Assumes nothing.
use Prim.Native.Nat.{ℕ, suc, ◌+◌, ◌-◌, ◌≤◌, ◌<◌}
use mathlib.Core.Path.{◌≡◌, refl, ◌∙◌}
use mathlib.Core.Bool.{true, false, cond}
use mathlib.Core.List.{List}
use native.Mathlib.Omega.{arith}
use native.Mathlib.Numerals.{add-one}
use lib.Dec.{ltb}
use borrow.Author.Tests.{lt-ltb, le-ltb}
use Rattle.lists.specs.Lists.{from}
use Rattle.zone_method.specs.Deciding.{finish_at, reached_at, passes_at, decides}

pub record Passing (list : List ℕ) (n i bound : ℕ) : Type 0 where
  pub within : i ≤ n
  pub whole : decides list n ≡ passes_at list bound (from i (n - i))

module _ (list : List ℕ) (n : ℕ) where
  pub pass_none : Passing list n 0 0
  unfolding decides
  pass_none = let e : n - 0 ≡ n = omega arith in record { within = omega arith; whole = rw e refl }

  module _ (i bound : ℕ) (g : Passing list n i bound) where
    pub pass_end : n ≤ i → decides list n ≡ true
    unfolding passes_at from
    pass_end h = let e : n - i ≡ 0 = omega arith in g.whole ∙ rw e

    module _ (h : i < n) where
      one : decides list n ≡ cond (ltb (finish_at list i) bound) false (passes_at list (reached_at list bound i) (from (i + 1) (n - (i + 1))))
      unfolding passes_at from
      one = let e : n - i ≡ suc (n - (i + 1)) = omega arith in g.whole ∙ rw (e, add-one i)

      pub pass_hit : (f : ℕ) → f ≡ finish_at list i → f < bound → decides list n ≡ false
      pass_hit f q l = one ∙ rw (← q, lt-ltb f bound l)

      pub pass_on : (f : ℕ) → f ≡ finish_at list i → bound ≤ f → (b : ℕ) → b ≡ reached_at list bound i → Passing list n (i + 1) b
      pass_on f q l b e = record { within = omega arith; whole = one ∙ rw (← q, le-ltb f bound l, e) }
