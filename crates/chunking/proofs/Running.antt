-- The loop along a run of forward zones: the answer of the whole is the answer from here on.
-- Assumes nothing.
use Prim.Native.Nat.{ℕ, suc, ◌+◌, ◌≤◌, ◌<◌, max}
use mathlib.Core.Path.{◌≡◌, refl, sym, ◌∙◌}
use mathlib.Core.List.{List, ◌∷◌}
use native.Mathlib.Omega.{arith}
use native.Mathlib.Numerals.{add-one}
use lib.ListN.{length, get_or, drop, drop_of_length-le}
use lib.Seq.{drop-cons}
use borrow.Author.Tests.{lt-ltb, le-ltb}
use Rattle.methods.specs.declared.Zone.{Zone}
use Rattle.methods.specs.Zones.{low, high}
use Rattle.zones.specs.Zones.{zone_by}
use Rattle.chunking.specs.Chunks.{more, top_of, Spans}
use Rattle.chunking.specs.declared.Span.{Span}

-- the run that begins at a, with the top t₀ of its first zone, reaches i at least, and has there the top t
pub record Running (finish late list : List ℕ) (a t₀ i t : ℕ) : Type 0 where
  pub within : i ≤ length list
  pub after : a < i
  pub first : t₀ ≡ high (zone_by finish late (get_or list a 0))
  pub end : (a + 1) + more (zone_by finish late) t₀ (drop (a + 1) list) ≡ i + more (zone_by finish late) t (drop i list)
  pub top : top_of (zone_by finish late) t₀ (drop (a + 1) list) ≡ top_of (zone_by finish late) t (drop i list)

-- what the code of a run ensures
abbrev pub Ends : List ℕ → List ℕ → List ℕ → ℕ → Span → Type 0
Ends finish late list a r = Spans finish late list a r × (a < r.end) × (r.end ≤ length list)

module _ (finish late list : List ℕ) (a t₀ : ℕ) where
  abbrev z : ℕ → Zone
  z = zone_by finish late

  pub run_none : a < length list → t₀ ≡ high (z (get_or list a 0)) → Running finish late list a t₀ (a + 1) t₀
  run_none h e = record { within = omega arith; after = omega arith; first = e; end = refl; top = refl }

  module _ (i t : ℕ) (g : Running finish late list a t₀ i t) where
    ended : more z t (drop i list) ≡ 0 → top_of z t (drop i list) ≡ t → Ends finish late list a (record { end = i; top = t })
    ended e f =
        let n : i ≡ (a + 1) + more z t₀ (drop (a + 1) list) = omega (arith, e, g.end) in
        (record { end = rw g.first at n; top = rw g.first at (sym (g.top ∙ f)) }, g.after, g.within)

    pub run_end : length list ≤ i → Ends finish late list a (record { end = i; top = t })
    unfolding more top_of
    run_end h =
        let e : more z t (drop i list) ≡ 0 = rw (drop_of_length-le list h) in
        let f : top_of z t (drop i list) ≡ t = rw (drop_of_length-le list h) in
        ended e f

    module _ (h : i < length list) where
      drops : drop i list ≡ get_or list i 0 ∷ drop (i + 1) list
      drops = rw (add-one i) (drop-cons list i 0 h)

      pub run_stop : t ≤ low (z (get_or list i 0)) → Ends finish late list a (record { end = i; top = t })
      unfolding more top_of
      run_stop l =
          let e : more z t (drop i list) ≡ 0 = rw (drops, le-ltb (low (z (get_or list i 0))) t l) in
          let f : top_of z t (drop i list) ≡ t = rw (drops, le-ltb (low (z (get_or list i 0))) t l) in
          ended e f

      pub run_on : low (z (get_or list i 0)) < t → (t' : ℕ) → t' ≡ max t (high (z (get_or list i 0))) → Running finish late list a t₀ (i + 1) t'
      unfolding more top_of
      run_on l t' q =
          let e : more z t (drop i list) ≡ suc (more z t' (drop (i + 1) list)) = rw (drops, lt-ltb (low (z (get_or list i 0))) t l, q) in
          let f : top_of z t (drop i list) ≡ top_of z t' (drop (i + 1) list) = rw (drops, lt-ltb (low (z (get_or list i 0))) t l, q) in
          record { within = omega arith; after = omega (arith, g.after); first = g.first; end = omega (arith, e, g.end); top = g.top ∙ f }
