-- The loop over the runs that asks whether a zone lies inside one, and the loop that looks for a zone that does not.
-- Assumes nothing.
use Prim.Native.Nat.{ℕ, zero, suc, ◌+◌, ◌-◌, ◌≤◌, ◌<◌}
use mathlib.Core.Path.{◌≡◌, refl, ap, sym, ◌∙◌}
use mathlib.Core.Bool.{Bool, true, false, not, cond}
use mathlib.Core.List.{List, [], ◌∷◌}
use native.Mathlib.Omega.{arith}
use native.Mathlib.Numerals.{add-one}
use lib.ListN.{length, get_or, drop, drop_of_length-le}
use lib.Seq.{drop-cons, drop-drop}
use Rattle.lists.specs.Lists.{keep, put, all}
use Rattle.methods.specs.declared.Zone.{Zone}
use Rattle.methods.specs.Zones.{low, high}
use Rattle.zones.specs.Zones.{zone_by}
use Rattle.chunking.specs.Chunks.{lies, Reach, more, reaches, Spans, dangles_by, Skips}
use Rattle.chunking.specs.declared.Span.{Span}

-- the zone of w lies outside a run's union
abbrev pub outside : List ℕ → List ℕ → ℕ → Reach → Bool
outside finish late w q = not (lies finish late q.bottom q.top w)

-- the runs before a do not count: the answer of the whole is the answer from here on
pub record Hanging (finish late list : List ℕ) (w a : ℕ) : Type 0 where
  pub within : a ≤ length list
  pub fuel : ℕ
  pub enough : length list ≤ a + fuel
  pub whole : dangles_by finish late list w ≡ all (outside finish late w) (reaches (zone_by finish late) fuel (drop a list))

module _ (finish late list : List ℕ) (w : ℕ) where
  abbrev z : ℕ → Zone
  z = zone_by finish late

  pub hang_none : Hanging finish late list w 0
  unfolding dangles_by
  hang_none = record { within = omega arith; fuel = length list; enough = omega arith; whole = refl }

  -- no run is left
  none_left : (n : ℕ) → reaches z n [] ≡ []
  unfolding reaches
  none_left zero = refl
  none_left (suc n) = refl

  module _ (a : ℕ) (g : Hanging finish late list w a) where
    pub hang_end : length list ≤ a → dangles_by finish late list w ≡ true
    unfolding all
    hang_end h =
        g.whole
        ∙ ap (λ (l : List ℕ). all (outside finish late w) (reaches z g.fuel l)) (drop_of_length-le list h)
        ∙ ap (all (outside finish late w)) (none_left g.fuel)

    module _ (h : a < length list) (r : Span) (s : Spans finish late list a r) where
      abbrev x : ℕ
      x = get_or list a 0

      -- the first of the runs that are left, and those behind it
      abbrev split : ℕ → Bool
      split n = cond (not (lies finish late (low (z x)) r.top w)) (all (outside finish late w) (reaches z n (drop r.end list))) false

      behind : drop (more z (high (z x)) (drop (a + 1) list)) (drop (a + 1) list) ≡ drop r.end list
      behind = drop-drop (more z (high (z x)) (drop (a + 1) list)) (a + 1) list ∙ ap (λ (n : ℕ). drop n list) (sym s.end)

      one : (n : ℕ) → g.fuel ≡ suc n → dangles_by finish late list w ≡ split n
      unfolding all reaches
      one n e =
          let d : drop a list ≡ x ∷ drop (a + 1) list = rw (add-one a) (drop-cons list a 0 h) in
          g.whole
          ∙ ap (λ (k : ℕ). all (outside finish late w) (reaches z k (drop a list))) e
          ∙ ap (λ (l : List ℕ). all (outside finish late w) (reaches z (suc n) l)) d
          ∙ ap (λ (t : ℕ). cond (not (lies finish late (low (z x)) t w)) (all (outside finish late w) (reaches z n (drop (more z (high (z x)) (drop (a + 1) list)) (drop (a + 1) list)))) false) (sym s.top)
          ∙ ap (λ (l : List ℕ). cond (not (lies finish late (low (z x)) r.top w)) (all (outside finish late w) (reaches z n l)) false) behind

      less : g.fuel ≡ suc (g.fuel - 1)
      less = omega (arith, g.enough)

      pub hang_hit : (b : ℕ) → b ≡ low (z x) → lies finish late b r.top w ≡ true → dangles_by finish late list w ≡ false
      hang_hit b q e = let k : lies finish late (low (z x)) r.top w ≡ true = rw q at e in one (g.fuel - 1) less ∙ rw k

      pub hang_on : a < r.end → r.end ≤ length list → (b : ℕ) → b ≡ low (z x) → lies finish late b r.top w ≡ false → Hanging finish late list w r.end
      hang_on c d b q e =
          let k : lies finish late (low (z x)) r.top w ≡ false = rw q at e in
          record { within = d; fuel = g.fuel - 1; enough = omega (arith, g.enough); whole = one (g.fuel - 1) less ∙ rw k }

-- those before i do not dangle
pub record Skipping (finish late forwards backwards : List ℕ) (j i : ℕ) : Type 0 where
  pub from : j ≤ i
  pub to : i ≤ length backwards
  pub same : keep (dangles_by finish late forwards) (drop j backwards) ≡ keep (dangles_by finish late forwards) (drop i backwards)

module _ (finish late forwards backwards : List ℕ) (j i : ℕ) (g : Skipping finish late forwards backwards j i) where
  pub skip_hit : dangles_by finish late forwards (get_or backwards i 0) ≡ true → Skips finish late forwards backwards j i
  skip_hit e = record { from = g.from; to = g.to; same = g.same; hit = λ l. e }

  pub skip_on : i < length backwards → dangles_by finish late forwards (get_or backwards i 0) ≡ false → Skipping finish late forwards backwards j (i + 1)
  unfolding keep put
  skip_on h e =
      let d : drop i backwards ≡ get_or backwards i 0 ∷ drop (i + 1) backwards = rw (add-one i) (drop-cons backwards i 0 h) in
      record { from = omega (arith, g.from); to = omega arith; same = g.same ∙ ap (keep (dangles_by finish late forwards)) d ∙ rw e }
