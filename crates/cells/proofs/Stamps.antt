-- A stamp cell: a number, or else clock time.
-- Assumes nothing.
use Prim.Native.Nat.{ℕ, ◌-◌, ◌≤◌, ◌<◌}
use mathlib.Core.Path.{◌≡◌, refl, sym, ap, ◌∙◌}
use mathlib.Core.List.{List}
use native.Mathlib.Omega.{arith}
use lib.ListN.{length, take, drop}
use mathlib.Core.Bool.{true, false}
use mathlib.Core.Logic.{◌⊎◌, inl, inr}
use Rattle.std.specs.Prelude.{Option, Some, None}
use Rattle.std.specs.Option.{is_some}
use Rattle.parsing.specs.Numbers.{number_of}
use Rattle.clock.specs.Clock.{clock_in, stamp_in}
use Rattle.clock.proofs.Forms.{stamp_number, stamp_clock}
use Rattle.clock.proofs.Lengths.{read_short}
use Rattle.cells.specs.declared.Cell.{Cell}
use Rattle.cells.specs.Steps.{cell_at, end_of, saying}
use Rattle.cells.proofs.Reading.{cell_is, cell_part, end_within, some_within}

-- what a cell that was read as a number says as a stamp
module _ (bs : List ℕ) (at : ℕ) (cell : Cell) (is : cell ≡ saying bs at (number_of (cell_at bs at))) where
  ends : cell.end ≡ end_of bs at
  ends = ap (λ (x : Cell). x.end) is

  says : (n : Option ℕ) → cell.number ≡ n → number_of (cell_at bs at) ≡ n
  says n e = sym (ap (λ (x : Cell). x.number) is) ∙ e

  cell_decimal : (x : ℕ) → cell.number ≡ Some x → cell ≡ saying bs at (stamp_in (cell_at bs at))
  cell_decimal x e = is ∙ cell_is _ _ _ _ refl (says (Some x) e ∙ sym (stamp_number (cell_at bs at) x (says (Some x) e)))

  module _ (e : cell.number ≡ None) where
    cell_empty : cell.end ≤ at → cell ≡ saying bs at (stamp_in (cell_at bs at))
    cell_empty h =
        is
        ∙ cell_is _ _ _ _ refl
        (says None e ∙ read_short (cell_at bs at) (omega (arith, ends)) ∙ sym (stamp_clock (cell_at bs at) (says None e)))

    pub cell_clock : (n : Option ℕ) → n ≡ clock_in (take (cell.end - at) (drop at bs)) → ◌≡◌ {A = Cell} (record { end = cell.end; number = n }) (saying bs at (stamp_in (cell_at bs at)))
    cell_clock n f =
        cell_is _ _ _ _ ends (f ∙ ap clock_in (cell_part bs at cell.end ends) ∙ sym (stamp_clock (cell_at bs at) (says None e)))

  -- a number stays, and so does an empty cell; any other is read as clock time
  pub cell_kept : (is_some cell.number ≡ true) ⊎ ((is_some cell.number ≡ false) × (cell.end ≤ at)) → cell ≡ saying bs at (stamp_in (cell_at bs at))
  cell_kept h = go cell.number refl h
    where
      go : (n : Option ℕ) → cell.number ≡ n → (is_some n ≡ true) ⊎ ((is_some n ≡ false) × (cell.end ≤ at)) → cell ≡ saying bs at (stamp_in (cell_at bs at))
      go (Some x) e h = cell_decimal x e
      go None e (inl h) = absurd cc
      go None e (inr h) = cell_empty e h.1

  pub cell_within : at < cell.end → cell.end ≤ length bs
  cell_within h = omega (arith, ends, end_within bs at (omega (arith, some_within bs at (omega (arith, ends)))))

pub is_none : (n : Option ℕ) → is_some n ≡ false → n ≡ None
is_none (Some x) e = absurd cc
is_none None e = refl
