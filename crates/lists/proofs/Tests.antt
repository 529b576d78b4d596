-- What a test tells of the statement that it tests: that it holds, or that it does not. One law a connective; both directions follow.
-- Assumes nothing.
use Prim.Native.Nat.{ℕ, ◌≤◌, ◌<◌}
use mathlib.Core.Path.{◌≡◌, refl, sym, ap, ◌∙◌}
use mathlib.Core.Bool.{Bool, true, false, not, ◌&&◌, ◌||◌, true≢false}
use mathlib.Core.Logic.{◌⊎◌, inl, inr}
use lib.Dec.{ltb, leb, eqb}
use borrow.Author.Tests.{ltb-true, ltb-false, leb-true, leb-false, eqb-true, eqb-false}
use native.Mathlib.Omega.{arith}

pub data Told (P : Type 0) : Bool → Type 0 where
  holds : P → Told P true
  fails : (P → ⊥) → Told P false

pub both : {b : Bool} → b ≡ true → b ≡ false → ⊥
both p q = true≢false (sym p ∙ q)

-- either value of a test, with the equation
pub test : (b : Bool) → (b ≡ true) ⊎ (b ≡ false)
test true = inl refl
test false = inr refl

pub true_not : {b : Bool} → b ≡ false → not b ≡ true
true_not e = ap not e

pub and_true : (a b : Bool) → (a && b) ≡ true → (a ≡ true) × (b ≡ true)
and_true true b e = (refl, e)
and_true false b e = absurd (both e refl)

pub true_and : {a b : Bool} → a ≡ true → b ≡ true → (a && b) ≡ true
true_and p q = rw (p, q)

pub or_true : (a b : Bool) → (a || b) ≡ true → (a ≡ true) ⊎ (b ≡ true)
or_true true b e = inl refl
or_true false b e = inr e

pub true_or : (a b : Bool) → (a ≡ true) ⊎ (b ≡ true) → (a || b) ≡ true
true_or a b (inl p) = rw p
true_or true b (inr q) = refl
true_or false b (inr q) = q

pub or_false : (a b : Bool) → (a || b) ≡ false → (a ≡ false) × (b ≡ false)
or_false true b e = absurd (both refl e)
or_false false b e = (refl, e)

module _ {P : Type 0} where
  -- two tests of one statement answer alike
  pub told_same : {a b : Bool} → Told P a → Told P b → a ≡ b
  told_same (holds p) (holds q) = refl
  told_same (holds p) (fails n) = absurd (n p)
  told_same (fails n) (holds q) = absurd (n q)
  told_same (fails n) (fails m) = refl

  pub told_true : {b : Bool} → Told P b → b ≡ true → P
  told_true (holds p) e = p
  told_true (fails n) e = absurd (both e refl)

  pub true_told : {b : Bool} → Told P b → P → b ≡ true
  true_told (holds p) q = refl
  true_told (fails n) q = absurd (n q)

  pub told_false : {b : Bool} → Told P b → b ≡ false → P → ⊥
  told_false (holds p) e q = both refl e
  told_false (fails n) e q = n q

  pub false_told : {b : Bool} → Told P b → (P → ⊥) → b ≡ false
  false_told (holds p) n = absurd (n p)
  false_told (fails n) m = refl

  -- the same test tells of an equivalent statement
  pub told_as : {Q : Type 0} {b : Bool} → (P → Q) → (Q → P) → Told P b → Told Q b
  told_as f g (holds p) = holds (f p)
  told_as f g (fails n) = fails (λ q. n (g q))

  pub told_not : {b : Bool} → Told P b → Told (P → ⊥) (not b)
  told_not (holds p) = fails (λ n. n p)
  told_not (fails n) = holds n

  pub told_and : {Q : Type 0} {a b : Bool} → Told P a → Told Q b → Told (P × Q) (a && b)
  told_and (holds p) (holds q) = holds (p, q)
  told_and (holds p) (fails m) = fails (λ h. m h.1)
  told_and (fails n) t = fails (λ h. n h.0)

  pub told_or : {Q : Type 0} {a b : Bool} → Told P a → Told Q b → Told (P ⊎ Q) (a || b)
  told_or (holds p) t = holds (inl p)
  told_or (fails n) (holds q) = holds (inr q)
  told_or {Q} (fails n) (fails m) = fails neither
    where
      neither : P ⊎ Q → ⊥
      neither (inl p) = n p
      neither (inr q) = m q

pub told_ltb : (a b : ℕ) → Told (a < b) (ltb a b)
told_ltb a b = go (ltb a b) refl
  where
    go : (t : Bool) → ltb a b ≡ t → Told (a < b) t
    go true e = holds (ltb-true a b e)
    go false e = fails (λ h. omega (arith, ltb-false a b e))

pub told_eqb : (a b : ℕ) → Told (a ≡ b) (eqb a b)
told_eqb a b = go (eqb a b) refl
  where
    go : (t : Bool) → eqb a b ≡ t → Told (a ≡ b) t
    go true e = holds (eqb-true a b e)
    go false e = fails (eqb-false a b e)

pub told_leb : (a b : ℕ) → Told (a ≤ b) (leb a b)
told_leb a b = go (leb a b) refl
  where
    go : (t : Bool) → leb a b ≡ t → Told (a ≤ b) t
    go true e = holds (leb-true a b e)
    go false e = fails (λ h. omega (arith, leb-false a b e))
