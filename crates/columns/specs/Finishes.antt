-- The doubled finishes, as they are and shortened (document 01, "Doubled stamps"; 02, W-203: of the ranks).
-- Assumes nothing.
use Rattle.std.specs.Prelude.{ℕ, ◌*◌, ◌-◌, ◌<◌, ◌≡◌, cond, List, map, ltb, length}
use Rattle.history.specs.declared.Op.{Op}
use Rattle.positions.specs.Columns.{op}
use Rattle.columns.specs.Writers.{Tied}

-- a write's finish after one of its reads: one below the read's, where that is lower
unfoldable pub lowered : ℕ → ℕ → ℕ
lowered end finish = cond (ltb end finish) (end - 1) finish

-- the columns of writers and of doubled finishes of H, none of them shortened
pub record Whole (H : List Op) (writer finish : List ℕ) : Type 0 where
  pub tied : Tied H writer
  pub above : (j : ℕ) → j < length H → 0 < (op H j).finish
  pub doubled : finish ≡ map (λ o. 2 * o.finish) H
