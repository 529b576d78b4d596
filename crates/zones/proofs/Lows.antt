-- The loop that lists the writes and writes the low ends of their zones.
-- Assumes nothing.
use Prim.Native.Nat.{ℕ, ◌+◌, ◌≤◌, ◌<◌}
use mathlib.Core.Path.{◌≡◌, refl, ap, sym, ◌∙◌}
use mathlib.Core.Logic.{◌⊎◌, inl, inr}
use mathlib.Core.List.{List}
use native.Mathlib.Omega.{arith}
use native.Mathlib.Numerals.{add-one}
use lib.ListN.{length, get_or, take, set, length-set}
use lib.Seq.{get_or-set_same, get_or-set_other, take-suc-set}
use borrow.Author.Tests.{eq-eqb, ne_eqb}
use Rattle.methods.specs.Zones.{low}
use Rattle.positions.specs.Places.{upto}
use Rattle.positions.specs.Columns.{is_own}
use Rattle.positions.proofs.Places.{below, upto_more, upto_out, upto_zero}
use Rattle.zones.specs.Zones.{last_by, Lates, zone_by, writes_at, Lows}
use Rattle.zones.proofs.LastStarts.{lates_none, lates_skip, lates_push}

-- the writes below i are at the front of the list, m in number, and have the largest starts of their clusters and their low ends
pub record Listing (start finish writer last : List ℕ) (i m : ℕ) (late column column₀ list list₀ : List ℕ) : Type 0 where
  pub within : i ≤ length writer
  pub few : m ≤ i
  pub room : length list ≡ length list₀
  pub kept : length column ≡ length column₀
  pub written : take m list ≡ upto (is_own writer) i
  pub lates : Lates start writer last i late
  pub ends : Lows finish late writer i column

module _ (start finish writer last column₀ list₀ : List ℕ) where
  pub list_none : (late : List ℕ) → length late ≡ length start → length writer ≤ length column₀ → Listing start finish writer last 0 0 late column₀ column₀ list₀ list₀
  list_none late l h =
      record {
        within = omega arith;
        few = omega arith;
        room = refl;
        kept = refl;
        written = sym (upto_zero (is_own writer));
        lates = lates_none start writer last late l;
        ends = record { long = h; lows = λ w l. absurd (omega arith) };
      }

  module _ (i m : ℕ) (late column list : List ℕ) (g : Listing start finish writer last i m late column column₀ list list₀) where
    module _ (h : i < length writer) where
      pub list_skip : (get_or writer i 0 ≡ i → ⊥) → Listing start finish writer last (i + 1) m late column column₀ list list₀
      list_skip d =
          record {
            within = omega arith;
            few = omega (arith, g.few);
            room = g.room;
            kept = g.kept;
            written = g.written ∙ sym (upto_out (is_own writer) i (ne_eqb (get_or writer i 0) i d));
            lates = lates_skip start writer last late i g.lates d;
            ends = record { long = g.ends.long; lows = λ w l e. go w l e (below w i) };
          }
        where
          go : (w : ℕ) → w < i + 1 → get_or writer w 0 ≡ w → (w < i) ⊎ (i ≤ w) → get_or column w 0 ≡ low (zone_by finish late w)
          go w l e (inl k) = g.ends.lows w k e
          go w l e (inr k) = let q : w ≡ i = omega arith in absurd (d (rw q at e))

      pub list_push : i < length start → get_or writer i 0 ≡ i → m < length list → (s : ℕ) → s ≡ last_by start last i → (z : ℕ) → z ≡ low (zone_by finish (set late i s) i) → (v : ℕ) → v ≡ i →
          Listing start finish writer last (i + 1) (m + 1) (set late i s) (set column i z) column₀ (set list m v) list₀
      list_push b e l s p z q v r =
          record {
            within = omega arith;
            few = omega (arith, g.few);
            room = length-set list m v ∙ g.room;
            kept = length-set column i z ∙ g.kept;
            written = rw (add-one m, take-suc-set list m v l, g.written, r) (sym (upto_more (is_own writer) i (eq-eqb (get_or writer i 0) i e)));
            lates = lates_push start writer last late i g.lates b s p;
            ends = record { long = rw (length-set column i z) g.ends.long; lows = λ w k f. go w k f (below w i) };
          }
        where
          go : (w : ℕ) → w < i + 1 → get_or writer w 0 ≡ w → (w < i) ⊎ (i ≤ w) → get_or (set column i z) w 0 ≡ low (zone_by finish (set late i s) w)
          go w k f (inl a) =
              get_or-set_other column i w z 0 (λ x. omega arith)
              ∙ g.ends.lows w a f
              ∙ ap (λ (x : ℕ). low (record { finish = get_or finish w 0; start = x })) (sym (get_or-set_other late i w s 0 (λ x. omega arith)))
          go w k f (inr a) =
              let j : w ≡ i = omega arith in
              let b : i < length column = omega (arith, g.ends.long) in
              rw (j, get_or-set_same column i z 0) q
