-- A line walked, cell by cell: what the whole gives is what the cells from here on give.
-- Assumes nothing.
use Prim.Native.Nat.{ℕ, ◌+◌, ◌≤◌, ◌<◌}
use mathlib.Core.Path.{◌≡◌, refl, sym, ap, ◌∙◌}
use mathlib.Core.Bool.{Bool, true, false, cond, not}
use mathlib.Core.List.{List}
use native.Mathlib.Omega.{arith}
use lib.ListN.{length}
use Rattle.lists.specs.Lists.{first}
use Rattle.history.specs.declared.Row.{Row}
use Rattle.std.specs.Prelude.{Option, Some, None, unwrap_or}
use Rattle.parsing.specs.Numbers.{is_number}
use Rattle.cells.specs.declared.Cell.{Cell}
use Rattle.cells.specs.Parts.{Part}
use Rattle.cells.specs.Steps.{cell_at, end_of, saying, comma_at}
use Rattle.cells.proofs.Reading.{cell_is}
use Rattle.cells.proofs.Parting.{cells_last, cells_more, line_last, line_more, comma_within}
use Rattle.headers.specs.declared.Columns.{Columns}
use Rattle.logs.specs.declared.Line.{Line}
use Rattle.log_tables.specs.Logs.{said_in, unreadable, amount}
use Rattle.logs.specs.Steps.{SaysDecimal, in_column, row_from, with_cell, or_else, walked}

-- a line walked
line_is : (r s : Row) (m n e f : ℕ) (a b : Option ℕ) → r ≡ s → m ≡ n → e ≡ f → a ≡ b
    → ◌≡◌ {A = Line} (record { row = r; count = m; end = e; fault = a }) (record { row = s; count = n; end = f; fault = b })
line_is r s m n e f a b p q u v = cc

-- what cannot be read, in two steps
or_step : (f : Option ℕ) (u : Bool) (at : ℕ) (g : Option ℕ) → or_else f (cond u (Some at) g) ≡ or_else (or_else f (cond u (Some at) None)) g
or_step (Some n) u at g = refl
or_step None true at g = refl
or_step None false at g = refl

module _ (bs : List ℕ) (cs : Columns) where
  -- the line from a cell on, behind the row, the count and the fault of the cells before, gives what the whole walk gives
  pub record Walking (whole : Line) (r : Row) (f : Option ℕ) (k at : ℕ) : Type 0 where
    pub within : at ≤ length bs
    pub count : k ≤ at
    pub rest : whole ≡ walked bs cs r k at f

  pub walk_none : (r : Row) (k at : ℕ) → k ≤ at → at ≤ length bs → Walking (walked bs cs r k at None) r None k at
  walk_none r k at c h = record { within = h; count = c; rest = refl }

  -- a cell that was read, its number, and the row and the fault with it
  module _ (whole : Line) (r : Row) (f : Option ℕ) (k at : ℕ) (g : Walking whole r f k at)
      (cell : Cell) (read : cell ≡ saying bs at (said_in cs k (cell_at bs at)))
      (x : ℕ) (worth : x ≡ amount cell.number) (row : Row) (filled : row ≡ with_cell cs r k x)
      (fault : Option ℕ) (found : fault ≡ or_else f (cond (not (is_number cell.number)) (Some at) None)) where
    number : cell.number ≡ said_in cs k (cell_at bs at)
    number = ap (λ (y : Cell). y.number) read

    ends : cell.end ≡ end_of bs at
    ends = ap (λ (y : Cell). y.end) read

    row_is : row ≡ with_cell cs r k (amount (said_in cs k (cell_at bs at)))
    row_is = filled ∙ ap (with_cell cs r k) (worth ∙ ap amount number)

    fault_is : fault ≡ or_else f (cond (not (is_number (said_in cs k (cell_at bs at)))) (Some at) None)
    fault_is = found ∙ ap (λ (n : Option ℕ). or_else f (cond (not (is_number n)) (Some at) None)) number

    pub walk_on : comma_at bs cell.end ≡ true → cell.end < length bs
    walk_on is = comma_within bs at cell.end ends is

    pub walk_above : at ≤ cell.end
    walk_above = omega (arith, ends)

    pub walk_more : comma_at bs cell.end ≡ true → Walking whole row fault (k + 1) (cell.end + 1)
    unfolding walked in_column first
    walk_more is =
        let c = cells_more bs at cell.end ends is k in
        record {
          within = omega (arith, walk_on is);
          count = omega (arith, g.count, ends);
          rest =
              rw (row_is, fault_is)
              (g.rest
              ∙ line_is _ _ _ _ _ _ _ _
              (ap (row_from cs r) c)
              (omega (arith, ap length c))
              (line_more bs at cell.end ends is)
              (ap (λ (ps : List Part). or_else f (first (λ p. p.at) (unreadable cs) ps)) c ∙ or_step f (not (is_number (said_in cs k (cell_at bs at)))) at _));
        }

    pub walk_end : comma_at bs cell.end ≡ false → record { row = row; count = k + 1; end = cell.end; fault = fault } ≡ whole
    unfolding walked in_column first
    walk_end is =
        let c = cells_last bs at cell.end ends is k in
        rw (row_is, fault_is)
        (sym
        (g.rest
        ∙ line_is _ _ _ _ _ _ _ _
        (ap (row_from cs r) c)
        (omega (arith, ap length c))
        (line_last bs at cell.end ends is)
        (ap (λ (ps : List Part). or_else f (first (λ p. p.at) (unreadable cs) ps)) c)))

  -- a cell that was read as a number says it, and is no fault
  module _ (k at : ℕ) (cell : Cell) (g : SaysDecimal bs at cs k cell) (x : ℕ) (is : cell.number ≡ Some x) where
    pub decimal_read : cell ≡ saying bs at (said_in cs k (cell_at bs at))
    decimal_read = cell_is _ _ _ _ g.ends (is ∙ sym (g.said x is))

    pub decimal_worth : x ≡ amount cell.number
    unfolding amount
    decimal_worth = sym (ap amount is)

    pub decimal_sound : None ≡ or_else None (cond (not (is_number cell.number)) (Some at) None)
    unfolding is_number
    decimal_sound = sym (ap (λ (n : Option ℕ). or_else None (cond (not (is_number n)) (Some at) None)) is)

-- the number that a cell is worth
pub amount_or : (n : Option ℕ) → unwrap_or n 0 ≡ amount n
unfolding amount
amount_or (Some x) = refl
amount_or None = refl
