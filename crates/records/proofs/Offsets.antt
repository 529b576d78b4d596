-- The walk along a file's records: what a loop that carries the offset knows of it.
-- Assumes nothing.
use Prim.Native.Nat.{ℕ, zero, suc, ◌+◌, ◌-◌, ◌≤◌, ◌<◌}
use mathlib.Core.Path.{◌≡◌, refl, sym, ap, ◌∙◌}
use mathlib.Core.Bool.{Bool, true, false, cond}
use mathlib.Core.List.{List, [], ◌∷◌}
use native.Mathlib.Nat.{add-zero}
use native.Mathlib.Omega.{arith}
use borrow.Author.Tests.{lt-ltb, le-ltb}
use lib.Dec.{ltb}
use lib.ListN.{length, get_or, drop, length-drop}
use lib.Seq.{drop-drop, get_or-drop}
use Rattle.records.specs.Records.{next, offsets_from, offsets, begun, offset, Walked}

module _ (bs : List ℕ) where
  pub offsets_more : (n at : ℕ) → at < length bs → offsets_from (suc n) bs at ≡ at ∷ offsets_from n bs (next bs at)
  unfolding offsets_from
  offsets_more n at h = rw (lt-ltb at (length bs) h)

  pub offsets_end : (n at : ℕ) → length bs ≤ at → offsets_from n bs at ≡ []
  unfolding offsets_from
  offsets_end zero at h = refl
  offsets_end (suc n) at h = rw (le-ltb at (length bs) h)

  pub offsets_most : (n at : ℕ) → length (offsets_from n bs at) ≤ n
  unfolding offsets_from
  offsets_most zero at = omega arith
  offsets_most (suc n) at = go (ltb at (length bs)) (offsets_most n (next bs at))
    where
      go : (b : Bool) → length (offsets_from n bs (next bs at)) ≤ n → length (cond b (at ∷ offsets_from n bs (next bs at)) []) ≤ suc n
      go true ih = omega arith
      go false ih = omega arith

  pub begun_most : begun bs ≤ 1025
  unfolding offsets
  begun_most = offsets_most 1025 0

  pub walked_none : Walked bs 0 0
  unfolding offsets
  walked_none = record { within = omega arith; rest = refl }

  module _ (i at : ℕ) (w : Walked bs i at) where
    module _ (h : at < length bs) (k : i < 1025) where
      here : drop i (offsets bs) ≡ at ∷ offsets_from (1025 - (i + 1)) bs (next bs at)
      here = let e : 1025 - i ≡ suc (1025 - (i + 1)) = omega arith in w.rest ∙ ap (λ (n : ℕ). offsets_from n bs at) e ∙ offsets_more (1025 - (i + 1)) at h

      pub walked_in : i < begun bs
      walked_in = omega (arith, ap length here, length-drop i (offsets bs))

      pub walked_here : offset bs i ≡ at
      walked_here = ap (λ (j : ℕ). get_or (offsets bs) j 0) (sym (add-zero i)) ∙ sym (get_or-drop i (offsets bs) 0 0) ∙ ap (λ (l : List ℕ). get_or l 0 0) here

      pub walked_more : Walked bs (i + 1) (next bs at)
      walked_more = record { within = omega (arith, walked_in); rest = sym (drop-drop 1 i (offsets bs)) ∙ ap (drop 1) here }

    pub walked_end : length bs ≤ at → i ≡ begun bs
    walked_end h = omega (arith, ap length (w.rest ∙ offsets_end (1025 - i) at h), length-drop i (offsets bs), w.within)
