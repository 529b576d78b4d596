-- The forward writes and the backward writes by low end: which they are, that each stands there once, and that they are the history's.
-- Assumes nothing.
use Prim.Native.Nat.{ℕ, suc, ◌+◌, ◌≤◌, ◌<◌}
use mathlib.Core.Path.{◌≡◌, refl, ap, sym, ◌∙◌}
use mathlib.Core.Bool.{Bool, true, false, not, ◌&&◌, cond}
use mathlib.Core.Logic.{◌≢◌}
use mathlib.Core.List.{List, [], ◌∷◌, Memᴰ as In}
use native.Mathlib.Omega.{arith}
use lib.ListN.{length, get_or}
use lib.Dec.{ltb}
use borrow.Author.Tests.{leb-true, leb-false, le-leb}
use Rattle.lists.specs.Lists.{keep, put}
use Rattle.lists.specs.Sorts.{sort}
use Rattle.lists.specs.Pairs.{Pairs}
use Rattle.lists.proofs.Tests.{both}
use Rattle.lists.proofs.Members.{in_keep, keep_ext}
use Rattle.lists.proofs.Pairs.{pairs_keep, pairs_map}
use Rattle.lists.proofs.Sorts.{sort_ordered}
use Rattle.lists.proofs.Images.{keep_map, sort_keep, get_d_in}
use Rattle.history.specs.declared.Op.{Op}
use Rattle.methods.specs.declared.Zone.{Zone}
use Rattle.methods.specs.Place.{writes}
use Rattle.methods.specs.Zones.{low, high, forward, backward, zone_of, low_first}
use Rattle.methods.specs.Fzf.{Run, forward_writes, backward_writes, spans, inner}
use Rattle.positions.specs.Places.{Unlike}
use Rattle.positions.specs.Columns.{Cols, size, wr, Sound, op, ops, Of}
use Rattle.zones.specs.Zones.{zone_by, Zoned, writes_at, by_low, Inside}
use Rattle.zones.proofs.ByLow.{by_low_write, by_low_in, by_low_rises, by_low_apart, zone_at, by_low_lem}
use Rattle.chunking.specs.Chunks.{faces, lies, side}
use Rattle.chunking.specs.Inner.{Rises}

-- two tests of which one at most holds
parts_length : {A : Type 0} (p q : A → Bool) (l : List A) → ((x : A) → q x ≡ not (p x)) → length (keep p l) + length (keep q l) ≤ length l
unfolding keep put
parts_length p q [] h = omega arith
parts_length p q (x ∷ l) h = rw (h x) (go (p x) (parts_length p q l h))
  where
    go : (b : Bool) → length (keep p l) + length (keep q l) ≤ length l → length (put b x (keep p l)) + length (put (not b) x (keep q l)) ≤ suc (length l)
    go true i = omega arith
    go false i = omega arith

module _ (finish late writer : List ℕ) where
  -- a listed one is a write
  pub side_in : (b : Bool) {w : ℕ} → In w (side finish late writer b) → In w (writes_at writer)
  side_in b m = by_low_in finish late writer (in_keep (faces finish late b) (by_low finish late writer) m).0

  pub side_own : (b : Bool) {w : ℕ} → In w (side finish late writer b) → (w < length writer) × (get_or writer w 0 ≡ w)
  side_own b m = by_low_write finish late writer (in_keep (faces finish late b) (by_low finish late writer) m).0

  pub side_inside : (b : Bool) → length finish ≡ length writer → Inside finish (side finish late writer b)
  side_inside b e i l = rw e (side_own b (get_d_in (side finish late writer b) 0 i l)).0

  -- each once
  pub side_apart : (b : Bool) → Pairs Unlike (side finish late writer b)
  side_apart b = pairs_keep (faces finish late b) (by_low_apart finish late writer)

  -- by low end
  pub side_rises : (b : Bool) → Rises finish late (side finish late writer b)
  side_rises b = pairs_keep (faces finish late b) (pairs_map (by_low_rises finish late writer) (λ x y m n r. r.0))

  -- no write is on both sides
  pub sides_unlike : (x y : ℕ) → In x (side finish late writer true) → In y (side finish late writer false) → x ≢ y
  unfolding faces
  sides_unlike x y m n e =
      let a : forward (zone_by finish late x) ≡ true = (in_keep (faces finish late true) (by_low finish late writer) m).1 in
      let b : not (forward (zone_by finish late y)) ≡ true = (in_keep (faces finish late false) (by_low finish late writer) n).1 in
      both b (ap (λ (v : ℕ). not (forward (zone_by finish late v))) (sym e) ∙ ap not a)

  pub sides_length : length (side finish late writer true) + length (side finish late writer false) ≤ length (by_low finish late writer)
  unfolding faces
  sides_length = parts_length (faces finish late true) (faces finish late false) (by_low finish late writer) (λ w. refl)

-- a listed one is a write of the columns
pub side_write : (C : Cols) → Sound C → (late : List ℕ) (b : Bool) {w : ℕ} → In w (side C.finish late C.writer b) → (w < size C) × (wr C w ≡ w)
side_write C p late b m = let k = side_own C.finish late C.writer b m in (omega (arith, k.0, p.shape.long), k.1)

module _ (H : List Op) where
  -- the order by low end
  le_trans : (x y z : Op) → low_first H x y ≡ true → low_first H y z ≡ true → low_first H x z ≡ true
  le_trans x y z a b =
      let k = leb-true (low (zone_of H x)) (low (zone_of H y)) a in
      let l = leb-true (low (zone_of H y)) (low (zone_of H z)) b in
      le-leb (low (zone_of H x)) (low (zone_of H z)) (omega (arith, k, l))

  le_ordered : (l : List Op) → Pairs (λ x y. low_first H x y ≡ true) (sort (low_first H) l)
  le_ordered l =
      sort_ordered (low_first H) (λ x y. low_first H x y ≡ true) (λ x y e. e)
      (λ x y e. le-leb (low (zone_of H y)) (low (zone_of H x)) (omega (arith, leb-false (low (zone_of H x)) (low (zone_of H y)) e))) le_trans l

module _ {C : Cols} {H : List Op} (o : Of C H) (late : List ℕ) (g : Zoned C late) where
  -- a part of the writes by low end
  some_is : (q : Op → Bool) (P : ℕ → Bool) → ((w : ℕ) → In w (writes_at C.writer) → q (op H w) ≡ P w)
      → ops H (keep P (by_low C.finish late C.writer)) ≡ sort (low_first H) (keep q (writes H))
  some_is q P h =
      ap (ops H) (sym (keep_ext (λ w. q (op H w)) P (by_low C.finish late C.writer) (λ w m. h w (by_low_in C.finish late C.writer m))))
      ∙ sym (keep_map (op H) q (by_low C.finish late C.writer))
      ∙ ap (keep q) (by_low_lem o late g)
      ∙ sort_keep (low_first H) q (le_trans H) (le_ordered H) (writes H)

  pub forwards_is : ops H (side C.finish late C.writer true) ≡ forward_writes H
  unfolding forward_writes faces
  forwards_is = some_is (λ w. forward (zone_of H w)) (faces C.finish late true) (λ w m. ap (λ (z : Zone). forward z) (zone_at o late g m))

  pub backwards_is : ops H (side C.finish late C.writer false) ≡ backward_writes H
  unfolding backward_writes faces
  backwards_is = some_is (λ w. backward (zone_of H w)) (faces C.finish late false) (λ w m. ap (λ (z : Zone). backward z) (zone_at o late g m))

  -- a zone inside a run's union
  pub spans_is : (r : Run) (bottom : ℕ) → bottom ≡ low (zone_of H r.first) → (w : ℕ) → In w (writes_at C.writer)
      → lies C.finish late bottom r.top w ≡ spans H r (op H w)
  unfolding lies
  spans_is r bottom e w m =
      ap (λ (b : ℕ). cond (ltb b (low (zone_by C.finish late w))) (ltb (high (zone_by C.finish late w)) r.top) false) e
      ∙ both_tests (ltb (low (zone_of H r.first)) (low (zone_by C.finish late w))) (ltb (high (zone_by C.finish late w)) r.top)
      ∙ ap (λ (z : Zone). ltb (low (zone_of H r.first)) (low z) && ltb (high z) r.top) (sym (zone_at o late g m))
    where
      both_tests : (a b : Bool) → cond a b false ≡ (a && b)
      both_tests true b = refl
      both_tests false b = refl

  pub inner_is : (r : Run) (bottom : ℕ) → bottom ≡ low (zone_of H r.first)
      → ops H (keep (lies C.finish late bottom r.top) (side C.finish late C.writer false)) ≡ inner H r
  inner_is r bottom e =
      ap (ops H) (keep_ext (lies C.finish late bottom r.top) (λ w. spans H r (op H w)) B (λ w m. spans_is r bottom e w (side_in C.finish late C.writer false m)))
      ∙ sym (keep_map (op H) (spans H r) B)
      ∙ ap (keep (spans H r)) backwards_is
    where
      B : List ℕ
      B = side C.finish late C.writer false
