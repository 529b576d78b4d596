-- A header read cell by cell: what the whole gives is what the cells from here on give, behind what was found.
-- Assumes nothing.
use Prim.Native.Nat.{ℕ, ◌+◌, ◌≤◌}
use mathlib.Core.Path.{◌≡◌, refl, sym, ap, ◌∙◌}
use mathlib.Core.Bool.{Bool, true, false, cond, not, ◌&&◌}
use mathlib.Core.List.{List, [], ◌∷◌}
use native.Mathlib.Nat.{zero-add}
use native.Mathlib.Omega.{arith}
use lib.Dec.{eqb}
use lib.ListN.{length}
use lib.Pointwise.{pointwise}
use Rattle.cells.specs.Parts.{same}
use Rattle.parsing.specs.Numbers.{front}
use Rattle.cells.specs.Steps.{cells_from, cell_at, end_of, comma_at}
use Rattle.cells.proofs.Parting.{cells_last, cells_more, line_last, line_more, comma_within}
use Rattle.cells.proofs.Reading.{end_within}
use Rattle.headers.specs.declared.Named.{Named}
use Rattle.headers.specs.Header.{column_from, header_cells, width, named_from, unnamed, sound_header}
use Rattle.headers.specs.Steps.{header_of, named_with, header_by, header_from}

-- names that are compared
names_same : (x y : List ℕ) → pointwise eqb x y ≡ same x y
unfolding same
names_same [] [] = refl
names_same [] (b ∷ y) = refl
names_same (a ∷ x) [] = refl
names_same (a ∷ x) (b ∷ y) = go (eqb a b) (names_same x y)
  where
    go : (d : Bool) → pointwise eqb x y ≡ same x y → (d && pointwise eqb x y) ≡ cond d (same x y) false
    go true e = e
    go false e = refl

module _ (x y : List ℕ) where
  pub names_equal : false ≡ not (pointwise eqb x y) → same x y ≡ true
  names_equal e = sym (names_same x y) ∙ go (pointwise eqb x y) e
    where
      go : (b : Bool) → false ≡ not b → b ≡ true
      go true e = refl
      go false e = absurd cc

  pub names_other : true ≡ not (pointwise eqb x y) → same x y ≡ false
  names_other e = sym (names_same x y) ∙ go (pointwise eqb x y) e
    where
      go : (b : Bool) → true ≡ not b → b ≡ false
      go true e = absurd cc
      go false e = refl

header_is : (size : ℕ) (m n : Named) (j k d e : ℕ) → m ≡ n → j ≡ k → d ≡ e → header_by size m j d ≡ header_by size n k e
header_is size m n j k d e p q r = rw (p, q, r)

module _ (bs : List ℕ) where
  pub record Heading (named : Named) (k at : ℕ) : Type 0 where
    pub within : at ≤ length bs
    pub count : k ≤ at
    pub rest : header_of bs ≡ header_from bs named k at

  pub head_none : Heading unnamed 0 0
  unfolding header_of header_from sound_header header_cells cells_from
  head_none =
      record {
        within = omega arith;
        count = omega arith;
        rest = header_is (length bs) _ _ _ _ _ _ refl (sym (zero-add (width bs))) (sym (zero-add (length (front bs))));
      }

  module _ (named : Named) (k at : ℕ) (g : Heading named k at) (end : ℕ) (ends : end ≡ end_of bs at) where
    pub head_within : end ≤ length bs
    head_within = omega (arith, ends, end_within bs at g.within)

    pub head_more : comma_at bs end ≡ true → Heading (named_with named (cell_at bs at) k) (k + 1) (end + 1)
    unfolding header_from named_from column_from
    head_more is =
        let c = cells_more bs at end ends is k in
        record {
          within = omega (arith, comma_within bs at end ends is);
          count = omega (arith, g.count, ends);
          rest =
              g.rest
              ∙ header_is (length bs) _ _ _ _ _ _ (ap (named_from named) c) (omega (arith, ap length c)) (line_more bs at end ends is);
        }

    pub head_end : comma_at bs end ≡ false → header_by (length bs) (named_with named (cell_at bs at) k) (k + 1) end ≡ header_of bs
    unfolding header_from named_from column_from
    head_end is =
        let c = cells_last bs at end ends is k in
        sym
        (g.rest
        ∙ header_is (length bs) _ _ _ _ _ _ (ap (named_from named) c) (omega (arith, ap length c)) (line_last bs at end ends is))
