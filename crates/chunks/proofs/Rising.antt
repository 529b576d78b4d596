-- Lists along which a key rises.
-- Assumes nothing.
use Prim.Native.Nat.{ℕ, ◌≤◌, ◌<◌}
use mathlib.Core.Path.{ap}
use mathlib.Core.List.Memᴰ.{eq_of_singleton as alone}
use mathlib.Core.List.Memᴰ.{head as here}
use mathlib.Core.List.Memᴰ.{tail as there}
use mathlib.Core.List.{
  List,
  [],
  ◌∷◌,
  ◌++◌,
  Memᴰ as In,
}
use native.Mathlib.Omega.{arith}
use Rattle.lists.specs.Pairs.{cons}
use Rattle.lists.proofs.Pairs.{pairs_one, pairs_head, pairs_append}
use Rattle.chunks.specs.Chunk.{Rising}

module _ {N : Type 0} (g : N → ℕ) where
  -- the key of `b` is below, or above, that of each element
  abbrev pub Before : List N → N → Type 0
  Before l b = (x : N) → In x l → g b < g x

  abbrev pub After : List N → N → Type 0
  After l b = (x : N) → In x l → g x < g b

  -- the list stands between the two
  abbrev pub Ends : List N → N → N → Type 0
  Ends l b c = Before l b × After l c

  pub rising_least : {w x : N} {l : List N} → Rising g (w ∷ l) → In x (w ∷ l) → g w ≤ g x
  rising_least r (here e) = omega (arith, ap g e)
  rising_least {x} r (there i) = omega (arith, pairs_head r x i)

  pub rising_cons : {v w : N} {l : List N} → g v < g w → Rising g (w ∷ l) → Rising g (v ∷ w ∷ l)
  rising_cons {v} {w} {l} h r = cons {x = v} {l = w ∷ l} (λ x i. omega (arith, rising_least r i)) r

  pub rising_last : (l : List N) (c : N) → Rising g l → After l c → Rising g (l ++ c ∷ [])
  rising_last l c r h = pairs_append r (pairs_one c) (λ x y i j. rw (alone j) (h x i))
