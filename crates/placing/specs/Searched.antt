-- What the search of a method answers over the columns of a prepared history, one statement for all methods.
-- Assumes nothing.
use Rattle.std.specs.Prelude.{ℕ, ◌-◌, ◌≤◌, ◌<◌, ◌≡◌, List, length, take, drop}
use Rattle.history.specs.declared.Op.{Op}
use Rattle.methods.specs.Zones.{none, order}
use Rattle.methods.specs.Mark.{Result}
use Rattle.positions.specs.Columns.{Cols, ops, Says}
use Rattle.placing.specs.declared.Search.{Search}
use Rattle.placing.specs.declared.Search.TheVariants.{Stale, Fresh, Spent}

-- the positions that stand at the places from .. to
abbrev pub between : List ℕ → ℕ → ℕ → List ℕ
between places from to = take (to - from) (drop from places)

-- THE CONTRACT of a search by the method m into places: no order, an order, or more trials than the allowance
pub data Searched (C : Cols) (allowance : ℕ) (m : List Op → Result) (places : List ℕ) : Search → Type 0 where
  is_stale : {t : ℕ} → t ≤ allowance → Says C (λ H. m H ≡ record { decision = none; trials = t }) → Searched C allowance m places (Stale t)
  is_fresh : {from to t : ℕ} → t ≤ allowance → from ≤ to → to ≤ length places →
      Says C (λ H. m H ≡ record { decision = order (ops H (between places from to)); trials = t }) → Searched C allowance m places (Fresh from to t)
  is_spent : Says C (λ H. allowance < (m H).trials) → Searched C allowance m places Spent
