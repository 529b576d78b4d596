use Prim.Native.Nat.{ℕ, ◌+◌}
use mathlib.Core.Path.{◌≡◌, refl}
use mathlib.Core.Bool.{Bool, true, false, not, cond}
use native.Mathlib.Omega.{arith}
use lib.Dec.{eqb}
use borrow.Author.Tests.{eqb-true, eqb-false, eq-eqb, ne_eqb}
use Rattle.placing.specs.Rules.{clash}
use Rattle.placing.proofs.clash.Goals as goal

of_itself : (i v w o : ℕ) → v ≡ i → eqb v i ≡ clash i v w o
unfolding clash
of_itself i v w o h = rw (eq-eqb v i h)

of_w : (i v w o : ℕ) → (v ≡ i → ⊥) → v ≡ w → not (eqb v w) ≡ clash i v w o
unfolding clash
of_w i v w o h k = rw (ne_eqb v i h, eq-eqb v w k)

of_other : (i v w o : ℕ) → (v ≡ i → ⊥) → (v ≡ w → ⊥) → not (eqb o v) ≡ clash i v w (o + 1)
unfolding clash
of_other i v w o h k = rw (ne_eqb v i h, ne_eqb v w k, ne_eqb (o + 1) 0 (λ e. omega arith)) (go (eqb o v) refl)
  where
    go : (b : Bool) → eqb o v ≡ b → not (eqb o v) ≡ not (eqb (o + 1) (v + 1))
    go true e = rw (e, eq-eqb (o + 1) (v + 1) (omega (arith, eqb-true o v e)))
    go false e = rw (e, ne_eqb (o + 1) (v + 1) (λ k. eqb-false o v e (omega arith)))

of_none : (i v w : ℕ) → eqb v i ≡ clash i v w 0
unfolding clash
of_none i v w = go (eqb v i) refl (eqb v w)
  where
    go : (b : Bool) → eqb v i ≡ b → (d : Bool) → eqb v i ≡ cond (eqb v i) true (cond d false (cond (eqb 0 0) false (not (eqb 0 (v + 1)))))
    go true e d = rw e
    go false e true = rw e
    go false e false = rw e

pub returns-then-v-i : goal.returns-then-v-i
returns-then-v-i c = of_itself _ _ _ _ c.if-v-i.true

pub returns-then-v-w : goal.returns-then-v-w
returns-then-v-w c = rw c.in-Some.is (of_other _ _ _ _ c.if-v-i.false c.if-v-w.true)

pub returns-else-v-w : goal.returns-else-v-w
returns-else-v-w c = of_w _ _ _ _ c.if-v-i.false c.if-v-w.false

pub returns-in-None : goal.returns-in-None
returns-in-None c = rw c.in-None.is (of_none _ _ _)
