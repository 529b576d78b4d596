-- What the code's names for faults stand for in the definitions of Check.antt, and what its searches keep beside the list.
-- Assumes nothing.
use Rattle.std.specs.Prelude.{ℕ, ◌<◌, ◌≡◌, Bool, List, length, get_or, take}
use Rattle.lists.specs.Lists.{keep}
use Rattle.history.specs.Table.{op_at, is_write, history}
use Rattle.history.specs.Answer.{Test, test}
use Rattle.history.specs.declared.Code.{Code}
use Rattle.history.specs.declared.Code.TheVariants.{MisfitList, OutOfTime, TooFarBehind}
use Rattle.history.specs.Screen.{Screened}
use Rattle.orders.specs.declared.Fault.{Fault}
use Rattle.orders.specs.declared.Fault.TheVariants.{Misfit, Late, TooFar}
use Rattle.atomicity.specs.Order.{TotalOrder}
use Rattle.atomicity.specs.Check.{misfits, late, too_far, lowest_at, missing}

abbrev pub code_of : Fault → Code
code_of Misfit = MisfitList
code_of Late = OutOfTime
code_of TooFar = TooFarBehind

unfoldable pub condition : Fault → List ℕ → ℕ → ℕ → List ℕ → ℕ → Bool
condition Misfit t register k order = misfits t register order
condition Late t register k order = late t order
condition TooFar t register k order = too_far k t order

abbrev pub position_test : List ℕ → ℕ → ℕ → List ℕ → Fault → Test
position_test t register k order x = test (code_of x) (lowest_at (condition x t register k order) order)

abbrev pub missing_test : List ℕ → ℕ → List ℕ → Test
missing_test t register order = test MisfitList (missing t register order)

-- a total order of a screened register
pub record Ordered (t order : List ℕ) : Type 0 where
  pub register : ℕ
  pub screened : Screened (length t) (history t register)
  pub total : TotalOrder t register order

-- what the tests before a fault's leave for its search
abbrev pub Before : Fault → List ℕ → List ℕ → Type 0
Before Misfit t order = Unit {0}
Before Late t order = Unit {0}
Before TooFar t order = Ordered t order

-- the number of writes before a position
abbrev pub writes_before : List ℕ → List ℕ → ℕ → ℕ
writes_before t order p = length (keep (λ i. is_write (op_at t i)) (take p order))

-- a place for each position of the order, with the number of writes before it
pub record Counted (t order counts : List ℕ) : Type 0 where
  pub long : length counts ≡ length order
  pub all : (p : ℕ) → p < length order → get_or counts p 0 ≡ writes_before t order p
