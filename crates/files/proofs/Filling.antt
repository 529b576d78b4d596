-- The loop that fills a lent list with parts, one behind the other.
-- Assumes nothing.
use Prim.Native.Nat.{ℕ, ◌+◌, ◌*◌, ◌≤◌, ◌<◌}
use mathlib.Core.Path.{◌≡◌, refl, sym, ap, ◌∙◌}
use mathlib.Core.List.{List, ◌++◌, flat_map}
use native.Mathlib.Nat.{zero-add}
use native.Mathlib.Omega.{arith}
use lib.ListN.{length, drop}
use lib.Seq.{sets, sets-eq, length-sets}
use Rattle.lists.specs.Lists.{from}
use Rattle.records.proofs.Blocks.{blocks, blocks_more, length_blocks}
use Rattle.records.proofs.Storing.{sets_on}

-- The first i parts are stored.
pub record Filling (g : ℕ → List ℕ) (old : List ℕ) (n i : ℕ) (l : List ℕ) : Type 0 where
  pub within : i ≤ n
  pub stored : l ≡ sets old 0 (blocks g i)

module _ (g : ℕ → List ℕ) (old : List ℕ) (n : ℕ) where
  pub fill_none : Filling g old n 0 old
  unfolding from flat_map
  fill_none = record { within = omega arith; stored = refl }

  module _ (i : ℕ) (l : List ℕ) (f : Filling g old n i l) where
    pub fill_long : length l ≡ length old
    fill_long = ap length f.stored ∙ length-sets old 0 (blocks g i)

    -- one part more, behind those before
    pub fill_behind : i < n → (at : ℕ) → at ≡ length (blocks g i) → (m : List ℕ) → m ≡ sets l at (g i) → Filling g old n (i + 1) m
    fill_behind h at a m e =
        record {
          within = omega arith;
          stored =
              e
              ∙ ap (λ (x : List ℕ). sets x at (g i)) f.stored
              ∙ sets_on (blocks g i) (g i) old 0 at (omega arith)
              ∙ ap (sets old 0) (sym (blocks_more g i));
        }

    -- the same of parts of one length
    pub fill_more : (size : ℕ) → ((k : ℕ) → length (g k) ≡ size) → i < n → (m : List ℕ) → m ≡ sets l (i * size) (g i) → Filling g old n (i + 1) m
    fill_more size each h m e = fill_behind h (i * size) (sym (length_blocks g size each i)) m e

    pub fill_end : n ≤ i → length (blocks g n) ≤ length old → l ≡ blocks g n ++ drop (length (blocks g n)) old
    fill_end h r =
        let e : i ≡ n = omega (arith, f.within) in
        f.stored ∙ ap (λ (k : ℕ). sets old 0 (blocks g k)) e ∙ sets-eq (blocks g n) old 0 (omega arith)
        ∙ ap (λ (k : ℕ). blocks g n ++ drop k old) (zero-add (length (blocks g n)))
