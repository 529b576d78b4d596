-- The pass over zones in a sequence: what it says of every two of them.
-- Assumes nothing.
use Prim.Native.Nat.{ℕ, ◌≤◌}
use mathlib.Core.Path.{◌≡◌, refl}
use mathlib.Core.Bool.{Bool, true, false, cond}
use mathlib.Core.List.Memᴰ.{head as here}
use mathlib.Core.List.Memᴰ.{tail as there}
use mathlib.Core.List.{List, [], ◌∷◌, map, Memᴰ as In}
use native.Mathlib.Omega.{arith}
use lib.Dec.{ltb}
use borrow.Author.Tests.{ltb-true, ltb-false, le-ltb}
use Rattle.lists.specs.Pairs.{Pairs, nil, cons}
use Rattle.lists.proofs.Tests.{both}
use Rattle.methods.specs.declared.Zone.{Zone}
use Rattle.methods.specs.Zones.{forward}
use Rattle.clusters.specs.Pass.{reached, passes}

module _ {A : Type 0} (z : A → Zone) where
  -- where x is forward, y finishes no sooner than x starts
  abbrev pub After : A → A → Type 0
  After x y = forward (z x) ≡ true → (z x).start ≤ (z y).finish

  abbrev Rest : ℕ → List A → Type 0
  Rest b l = ((x : A) → In x l → b ≤ (z x).finish) × Pairs After l

  pub pass_sound : (b : ℕ) (l : List A) → passes b (map z l) ≡ true → Rest b l
  unfolding passes reached
  pass_sound b [] e = (λ x m. elim m [ ], nil)
  pass_sound b (w ∷ l) e = go (ltb (z w).finish b) refl (forward (z w)) refl e (λ c. pass_sound c l)
    where
      first : b ≤ (z w).finish → ((x : A) → In x l → b ≤ (z x).finish) → (x : A) → In x (w ∷ l) → b ≤ (z x).finish
      first p h x (here q) = rw q p
      first p h x (there m) = h x m

      go : (a : Bool) → ltb (z w).finish b ≡ a → (d : Bool) → forward (z w) ≡ d → cond a false (passes (cond d (z w).start b) (map z l)) ≡ true
          → ((c : ℕ) → passes c (map z l) ≡ true → Rest c l) → Rest b (w ∷ l)
      go true p d q k ih = absurd (both k refl)
      go false p true q k ih =
          let r = ih (z w).start k in
          let f = ltb-false (z w).finish b p in
          (first f (λ x m. omega (arith, f, ltb-true (z w).finish (z w).start q, r.0 x m)), cons (λ y m d. r.0 y m) r.1)
      go false p false q k ih = let r = ih b k in (first (ltb-false (z w).finish b p) r.0, cons (λ y m d. absurd (both d q)) r.1)

  pub pass_complete : (b : ℕ) {l : List A} → ((x : A) → In x l → b ≤ (z x).finish) → Pairs After l → passes b (map z l) ≡ true
  unfolding passes reached
  pass_complete b h nil = refl
  pass_complete b h (cons {x = w} {l = l} u t) = rw (le-ltb (z w).finish b (h w (here refl))) (go (forward (z w)) refl (λ c k. pass_complete c k t))
    where
      go : (d : Bool) → forward (z w) ≡ d → ((c : ℕ) → ((x : A) → In x l → c ≤ (z x).finish) → passes c (map z l) ≡ true) → passes (cond d (z w).start b) (map z l) ≡ true
      go true q ih = ih (z w).start (λ x m. u x m q)
      go false q ih = ih b (λ x m. h x (there m))
