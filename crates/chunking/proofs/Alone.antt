-- A cluster that is set free by itself and laid down whole.
-- Assumes nothing.
use Prim.Native.Nat.{ℕ, ◌≤◌, ◌<◌}
use mathlib.Core.Path.{◌≡◌, refl, ap, ◌∙◌}
use mathlib.Core.Bool.{Bool, true, false, not, cond}
use mathlib.Core.List.{List, ◌∷◌, ◌++◌, append-nil}
use native.Mathlib.Omega.{arith}
use lib.ListN.{length, get_or, drop, drop_of_length-le}
use lib.Dec.{eqb}
use Rattle.positions.specs.Places.{upto}
use Rattle.positions.specs.Columns.{mine, read_of}
use Rattle.positions.proofs.Places.{upto_ext, upto_length, no_cond}
use Rattle.placing.specs.States.{is_free, state_of, Ready}
use Rattle.placing.specs.Owned.{Mine, Owned}
use Rattle.zones.specs.Zones.{cluster_at}
use Rattle.freeing.specs.Marks.{Dyed}
use Rattle.freeing.specs.Freed.{Shut}

module _ (writer : List ℕ) (w : ℕ) (old placed cells : List ℕ) (n : length writer ≤ 1024) (l : w < length writer) (e : get_or writer w 0 ≡ w)
    (c : length writer ≤ length cells) (m : length writer ≤ length placed) (h : Shut (length writer) old) (d : Dyed writer w 0 old placed) where
  own_free : (j : ℕ) → j < length writer → mine writer w j ≡ true → is_free placed j ≡ true
  own_free j k q = let z : get_or placed j 0 ≡ 0 = d j k ∙ rw q in ap (λ (x : ℕ). eqb x 0) z

  other_shut : (j : ℕ) → j < length writer → mine writer w j ≡ false → is_free placed j ≡ false
  other_shut j k q = let z : get_or placed j 0 ≡ get_or old j 0 = d j k ∙ rw q in ap (λ (x : ℕ). eqb x 0) z ∙ h j k

  pub alone_ready : Ready (length writer) (state_of placed cells (length cells) (length writer))
  alone_ready =
      record {
        size = n;
        within = omega arith;
        marks = m;
        high = omega arith;
        room = omega (arith, upto_length (is_free placed) (length writer));
        above = λ j a b. absurd (omega arith);
      }

  module _ (placed' cells' : List ℕ) (r : ℕ) (o : Owned writer w (state_of placed cells (length cells) (length writer)) (state_of placed' cells' r (length writer))) where
    pub alone_laid : (drop r cells' ≡ cluster_at writer w) × (r ≤ length cells')
    alone_laid = (
      o.order
          ∙ ap (λ (k : List ℕ). w ∷ (k ++ drop (length cells) cells)) (upto_ext (length writer) (λ j k. same j k (mine writer w j) refl))
          ∙ ap (λ (k : List ℕ). w ∷ (upto (read_of writer w) (length writer) ++ k)) (drop_of_length-le cells {i = length cells} (omega arith))
          ∙ ap (λ (k : List ℕ). w ∷ k) (append-nil (upto (read_of writer w) (length writer))),
      omega (arith, o.high, o.added.cells),
    )
      where
        same : (j : ℕ) → j < length writer → (b : Bool) → mine writer w j ≡ b → Mine writer w (state_of placed cells (length cells) (length writer)) j ≡ read_of writer w j
        same j k true q = rw (own_free j k q)
        same j k false q = rw q (no_cond (is_free placed j))

    pub alone_shut : Shut (length writer) placed'
    alone_shut j k = o.free j k ∙ go (mine writer w j) refl
      where
        go : (b : Bool) → mine writer w j ≡ b → cond (is_free placed j) (not b) false ≡ false
        go true q = no_cond (is_free placed j)
        go false q = rw (other_shut j k q)
