-- A text is its parts put together again: its cells joined, and its first line, the line feed and what follows.
-- Assumes nothing.
use Prim.Native.Nat.{ℕ, suc, ◌+◌, ◌<◌}
use mathlib.Core.Path.{◌≡◌, refl, sym, ap, ◌∙◌}
use mathlib.Core.Bool.{Bool, true, false, cond}
use mathlib.Core.List.{List, [], ◌∷◌, ◌++◌}
use native.Mathlib.Omega.{arith}
use borrow.Author.Tests.{eqb-true}
use lib.Dec.{eqb}
use lib.ListN.{length, drop, length-drop}
use lib.Seq.{drop-drop}
use Rattle.parsing.specs.Numbers.{front, after}
use Rattle.cells.specs.Parts.{comma, feed, Part, part, longer, parts}
use Rattle.cells.specs.Grids.{joined, bytes_of}
use Rattle.cells.proofs.Parting.{front_split}

-- a text has at least one part, even an empty one: so a cell before a comma is never the last
longer_some : (n at b : ℕ) (ps : List Part) → 0 < length (longer n at b ps)
unfolding longer
longer_some n at b [] = omega arith
longer_some n at b (p ∷ ps) = omega arith

pub parts_some : (c n at : ℕ) (t : List ℕ) → 0 < length (parts c n at t)
unfolding parts
parts_some c n at [] = omega arith
parts_some c n at (b ∷ t) = go (eqb b c)
  where
    go : (d : Bool) → 0 < length (cond d (part n at [] ∷ parts c (suc n) (suc at) t) (longer n at b (parts c n (suc at) t)))
    go true = omega arith
    go false = longer_some n at b (parts c n (suc at) t)

-- an empty cell before others adds a comma, and a longer first cell its byte
joined_nil : (ps : List Part) → 0 < length ps → joined ([] ∷ bytes_of ps) ≡ comma ∷ joined (bytes_of ps)
unfolding joined
joined_nil [] h = absurd (omega arith)
joined_nil (p ∷ ps) h = refl

joined_longer : (n at b : ℕ) (ps : List Part) → joined (bytes_of (longer n at b ps)) ≡ b ∷ joined (bytes_of ps)
unfolding joined longer
joined_longer n at b [] = refl
joined_longer n at b (p ∷ []) = refl
joined_longer n at b (p ∷ q ∷ ps) = refl

-- The cells of a text, joined, are the text.
pub joined_parts : (n at : ℕ) (t : List ℕ) → joined (bytes_of (parts comma n at t)) ≡ t
unfolding parts joined
joined_parts n at [] = refl
joined_parts n at (b ∷ t) = go (eqb b comma) refl (joined_parts (suc n) (suc at) t) (joined_parts n (suc at) t)
  where
    go : (d : Bool) → eqb b comma ≡ d → joined (bytes_of (parts comma (suc n) (suc at) t)) ≡ t → joined (bytes_of (parts comma n (suc at) t)) ≡ t
        → joined (bytes_of (cond d (part n at [] ∷ parts comma (suc n) (suc at) t) (longer n at b (parts comma n (suc at) t)))) ≡ b ∷ t
    go true e f g =
        joined_nil (parts comma (suc n) (suc at) t) (parts_some comma (suc n) (suc at) t)
        ∙ ap (λ (l : List ℕ). comma ∷ l) f
        ∙ ap (λ (x : ℕ). x ∷ t) (sym (eqb-true b comma e))
    go false e f g = joined_longer n at b (parts comma n (suc at) t) ∙ ap (λ (l : List ℕ). b ∷ l) g

-- A text from an offset on is the line there, its line feed, and the text from behind this on.
pub line_split : (bs : List ℕ) (at : ℕ) → at + length (front (drop at bs)) < length bs
    → drop at bs ≡ front (drop at bs) ++ (feed ∷ drop (at + length (front (drop at bs)) + 1) bs)
unfolding after
line_split bs at h =
    let k = length (front (drop at bs)) in
    let e : at + (k + 1) ≡ at + k + 1 = omega arith in
    let inside : length (front (drop at bs)) < length (drop at bs) = omega (arith, length-drop at bs) in
    front_split (drop at bs) inside
    ∙ ap (λ (t : List ℕ). front (drop at bs) ++ (feed ∷ t)) (drop-drop (k + 1) at bs ∙ ap (λ (i : ℕ). drop i bs) e)
