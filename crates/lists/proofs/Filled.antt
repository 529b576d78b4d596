-- The loop that fills a column with a function of the numbers of a list.
-- Assumes nothing.
use Prim.Native.Nat.{ℕ, suc, ◌+◌, ◌≤◌, ◌<◌}
use mathlib.Core.Path.{◌≡◌, refl, ap, ◌∙◌}
use mathlib.Core.List.{List, [], ◌∷◌, ◌++◌, map, append-nil}
use native.Mathlib.Numerals.{add-one}
use native.Mathlib.Omega.{arith}
use lib.ListN.{length, get_or, take, drop, set, length-set, length-map}
use lib.Seq.{take-suc, take-length, drop-length, drop-cons, set_at, append_snoc, length-take-le}
use Rattle.lists.proofs.Images.{map_append}

module _ (g : ℕ → ℕ) (rows out₀ : List ℕ) where
  -- the first i places are written
  pub record Filled (i : ℕ) (out : List ℕ) : Type 0 where
    pub within : i ≤ length rows
    pub long : length out ≡ length out₀
    pub written : out ≡ map g (take i rows) ++ drop i out₀

  module _ (q : length out₀ ≡ length rows) where
    pub filled_none : Filled 0 out₀
    filled_none = record { within = omega arith; long = refl; written = refl }

    pub filled_more : (i v : ℕ) (out : List ℕ) → i < length rows → v ≡ g (get_or rows i 0) → Filled i out → Filled (i + 1) (set out i v)
    filled_more i v out h e f =
        record {
          within = omega arith;
          long = length-set out i v ∙ f.long;
          written =
              let k : i < length out₀ = omega arith in
              let n : length (map g (take i rows)) ≡ i = length-map (take i rows) g ∙ length-take-le i rows (omega arith) in
              let d : out ≡ map g (take i rows) ++ (get_or out₀ i 0 ∷ drop (suc i) out₀) = f.written ∙ ap (λ (l : List ℕ). map g (take i rows) ++ l) (drop-cons out₀ i 0 k) in
              ap (λ (l : List ℕ). set l i v) d
              ∙ set_at (map g (take i rows)) (get_or out₀ i 0) (drop (suc i) out₀) v i n
              ∙ rw (e, add-one i, take-suc rows i 0 h, map_append g (take i rows) (get_or rows i 0 ∷ []), append_snoc);
        }

    pub filled_end : (i : ℕ) (out : List ℕ) → length rows ≤ i → Filled i out → out ≡ map g rows
    filled_end i out h f =
        let e : i ≡ length rows = omega (arith, f.within) in
        f.written ∙ rw (e, take-length rows, ← q, drop-length out₀) (append-nil _)
