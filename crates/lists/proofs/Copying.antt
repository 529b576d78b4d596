-- The loop that copies a list over another of its length.
-- Assumes nothing.
use Prim.Native.Nat.{ℕ, suc, ◌+◌, ◌<◌}
use mathlib.Core.Path.{◌≡◌, refl, ap, ◌∙◌}
use mathlib.Core.List.{List, ◌∷◌, ◌++◌}
use native.Mathlib.Numerals.{add-one}
use native.Mathlib.Omega.{arith}
use lib.ListN.{length, get_or, take, drop, set}
use lib.Seq.{take-suc, drop-cons, set_at, append_snoc, length-take-le}

-- one element more is copied
pub copied_more :
    {A : Type 0} (from to₀ to : List A) (i : ℕ) (x : A) →
    i < length from →
    length to₀ ≡ length from →
    x ≡ get_or from i x →
    to ≡ take i from ++ drop i to₀ →
    set to i x ≡ take (i + 1) from ++ drop (i + 1) to₀
copied_more from to₀ to i x h k e w =
    let n : length (take i from) ≡ i = length-take-le i from (omega arith) in
    let d : to ≡ take i from ++ (get_or to₀ i x ∷ drop (suc i) to₀) = w ∙ ap (λ l. take i from ++ l) (drop-cons to₀ i x (omega arith)) in
    ap (λ l. set l i x) d
    ∙ set_at (take i from) (get_or to₀ i x) (drop (suc i) to₀) x i n
    ∙ rw (add-one i, take-suc from i x h, ← e, append_snoc) refl
