-- What trying orders gives: the definition decides that none will do, or the order that it takes stands in front of what was laid.
-- Assumes nothing.
use Rattle.std.specs.Prelude.{◌≡◌, List, ◌++◌, ℕ, ◌≤◌, length, drop, Option, Some, None}
use Rattle.history.specs.declared.Op.{Op}
use Rattle.methods.specs.Zones.{Decision, none, order}
use Rattle.positions.specs.Columns.{Cols, ops, Says}

-- d takes the order that stands from `at` on, in front of what was laid
pub record Laid (C : Cols) (d : List Op → Decision) (laid cells : List ℕ) (at : ℕ) : Type 0 where
  pub high : at ≤ length cells
  pub placed : List ℕ
  pub lays : placed ++ laid ≡ drop at cells
  pub whole : Says C (λ H. d H ≡ order (ops H placed))

-- THE CONTRACT of every function here that tries orders, where d is its definition
pub data Gives (C : Cols) (d : List Op → Decision) (laid cells : List ℕ) : Option ℕ → Type 0 where
  no_order : Says C (λ H. d H ≡ none) → Gives C d laid cells None
  an_order : {at : ℕ} → Laid C d laid cells at → Gives C d laid cells (Some at)
