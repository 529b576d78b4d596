-- One number more: whether some number below a bound passes a test.
-- Assumes nothing.
use Prim.Native.Nat.{ℕ, zero, suc, ◌+◌}
use mathlib.Core.Path.{◌≡◌, refl, ap, ◌∙◌}
use mathlib.Core.Bool.{Bool, true, false, ◌||◌}
use native.Mathlib.Numerals.{add-one}
use native.Mathlib.Omega.{arith}
use Rattle.lists.specs.Lists.{from, up_to, any}

pub or_none : (b : Bool) → (b || false) ≡ b
or_none true = refl
or_none false = refl

pub or_met : (b : Bool) → (b || true) ≡ true
or_met true = refl
or_met false = refl

any_from : (f : ℕ → Bool) (i n : ℕ) → any f (from i (suc n)) ≡ (any f (from i n) || f (i + n))
unfolding any from
any_from f i zero = or_none (f i) ∙ ap f (omega arith)
any_from f i (suc n) = go (f i) (any_from f (suc i) n)
  where
    go : (b : Bool) → any f (from (suc i) (suc n)) ≡ (any f (from (suc i) n) || f (suc i + n)) → (b || any f (from (suc i) (suc n))) ≡ ((b || any f (from (suc i) n)) || f (i + suc n))
    go true ih = refl
    go false ih = ih ∙ ap (λ (k : ℕ). any f (from (suc i) n) || f k) (omega arith)

pub any_more : (f : ℕ → Bool) (p : ℕ) → any f (up_to (p + 1)) ≡ (any f (up_to p) || f p)
any_more f p = rw (add-one p) (any_from f 0 p ∙ ap (λ (k : ℕ). any f (up_to p) || f k) (omega arith))
