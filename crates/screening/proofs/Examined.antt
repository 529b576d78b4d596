-- Tests 1 to 9: past the first three, those that look at each row; and only the register's rows are looked at.
-- Assumes nothing.
use Prim.Native.Nat.{ℕ, ◌≤◌, ◌/◌, ◌%◌}
use mathlib.Core.Path.{◌≡◌, ap₂}
use mathlib.Core.Bool.{Bool, false}
use mathlib.Core.List.{List}
use borrow.Author.Tests.{eq-eqb, le-ltb}
use lib.ListN.{length}
use Rattle.history.specs.declared.Op.{Op}
use Rattle.history.specs.Table.{largest_count, Alike}
use Rattle.history.specs.Answer.{first_met, passed}
use Rattle.history.specs.Screen.{tests, examined, screening}
use Rattle.history.proofs.Rows.{same_history}
use Rattle.conditions.specs.Tests.{condition, row_tests}

-- past the first three
pub past_three : (size : ℕ) (h : List Op) (b : Bool) → size % 5 ≡ 0 → size / 5 ≤ largest_count → b ≡ false → examined size h b ≡ first_met (row_tests h) (passed (length h))
unfolding examined tests first_met row_tests condition
past_three size h b whole few asked = rw (eq-eqb (size % 5) 0 whole, le-ltb largest_count (size / 5) few, asked)

-- Only the register's rows are examined: a table alike gets the same answer.
pub alike_screening : (t u : List ℕ) (register : ℕ) → Alike t u register → screening t register ≡ screening u register
unfolding screening
alike_screening t u register a = ap₂ (λ n h. examined n h false) a.size (same_history a)
