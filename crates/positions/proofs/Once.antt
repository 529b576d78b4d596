-- Lists that have each position once.
-- Assumes nothing.
use Prim.Native.Nat.{ℕ, zero, suc}
use mathlib.Core.Path.{sym}
use mathlib.Core.Bool.{Bool, true, false}
use mathlib.Core.Logic.{◌≢◌}
use mathlib.Core.List.Memᴰ.{head as here}
use mathlib.Core.List.{List, [], ◌∷◌, ◌++◌, Memᴰ as In}
use native.Mathlib.Omega.{arith}
use Rattle.lists.specs.Pairs.{Pairs, nil, cons}
use Rattle.lists.proofs.Pairs.{pairs_one, pairs_append}
use Rattle.lists.proofs.Images.{get_d_in}
use Rattle.positions.specs.Places.{pick_list, upto, Unlike, Once}
use Rattle.positions.proofs.Places.{in_upto}

-- members at two places of a list are apart
pub pairs_once : {l : List ℕ} → Pairs Unlike l → Once l
pairs_once nil i j h k = absurd (omega arith)
pairs_once (cons {l = l} u t) zero (suc j) h k = λ e. u _ (get_d_in l 0 j (omega arith)) (sym e)
pairs_once (cons u t) (suc i) (suc j) h k = pairs_once t i j (omega arith) (omega arith)
pairs_once (cons u t) i zero h k = absurd (omega arith)

-- the positions at which a test holds
pub places_apart : (P : ℕ → Bool) (n : ℕ) → Pairs Unlike (upto P n)
unfolding upto
places_apart P zero = nil
places_apart P (suc n) = go (P n) (places_apart P n)
  where
    other : (x y : ℕ) → In x (upto P n) → In y (n ∷ []) → x ≢ y
    other x y m (here e) q = omega (arith, (in_upto P n m).0, e, q)
    other x y m (mathlib.Core.List.Memᴰ.tail x6) q = elim x6 [ ]

    go : (b : Bool) → Pairs Unlike (upto P n) → Pairs Unlike (pick_list b (upto P n ++ (n ∷ [])) (upto P n))
    go true h = pairs_append h (pairs_one n) other
    go false h = h
