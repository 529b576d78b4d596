-- What a witness says of the writes between a read and its write, for k = 1 and k = 2.
-- Assumes nothing.
use Prim.Native.Nat.{ℕ, ◌<◌}
use mathlib.Core.Path.{◌≡◌}
use mathlib.Core.List.Memᴰ.{eq_of_singleton as alone}
use mathlib.Core.List.Memᴰ.{head as here}
use mathlib.Core.List.Memᴰ.{tail as there}
use mathlib.Core.List.{[], ◌∷◌, List, Memᴰ as In}
use native.Mathlib.Omega.{arith}
use native.Mathlib.Decide.{dec_lt}
use Rattle.lists.specs.Pairs.{cons}
use Rattle.lists.proofs.Pairs.{pairs_one}
use Rattle.history.specs.declared.Op.{Op}
use Rattle.witnesses.specs.Histories.{Write, Reads}
use Rattle.witnesses.specs.Witness.{Between, Witness}

module _ {pos : Op → ℕ} {H : List Op} where
  -- none is between
  pub near_one : Witness pos 1 H → (w r : Op) → Reads H w r → (z : Op) → Write H z → pos w < pos z → pos z < pos r → ⊥
  near_one k w r d z m h l = omega (arith, k.near w r d (z ∷ []) (pairs_one z) (λ y i. rw (alone i) (record { write = m; after = h; before = l })))

  -- any two that are between are one
  pub near_two : Witness pos 2 H → (w r : Op) → Reads H w r → (y z : Op) → Write H y → Write H z → pos w < pos y → pos y < pos r → pos w < pos z →
      pos z < pos r → y ≡ z
  near_two k w r d y z my mz h₁ h₂ h₃ h₄ = go (dec_lt (pos y) (pos z)) (dec_lt (pos z) (pos y))
    where
      y_in : Between pos H w r y
      y_in = record { write = my; after = h₁; before = h₂ }

      z_in : Between pos H w r z
      z_in = record { write = mz; after = h₃; before = h₄ }

      pair : {u v : Op} → Between pos H w r u → Between pos H w r v → (x : Op) → In x (u ∷ (v ∷ [])) → Between pos H w r x
      pair a b x (here e) = rw e a
      pair a b x (there i) = rw (alone i) b

      two : (u v : Op) → Between pos H w r u → Between pos H w r v → pos u < pos v → ⊥
      two u v a b l = omega (arith, k.near w r d (u ∷ (v ∷ [])) (cons {x = u} {l = v ∷ []} (λ x i. rw (alone i) l) (pairs_one v)) (pair a b))

      go : Dec (pos y < pos z) → Dec (pos z < pos y) → y ≡ z
      go (yes l) e = absurd (two y z y_in z_in l)
      go (no l) (yes m) = absurd (two z y z_in y_in m)
      go (no l) (no m) = k.apart y z my.mem mz.mem (omega arith)
