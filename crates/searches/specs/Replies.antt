-- What the step from a search to the outcome takes and leaves.
-- Assumes nothing.
use Rattle.std.specs.Prelude.{ℕ, ◌-◌, ◌≤◌, ◌≡◌, List, length}
use Rattle.history.specs.declared.Op.{Op}
use Rattle.history.specs.declared.Answer.{Answer}
use Rattle.methods.specs.Mark.{Outcome, Result, row_numbers, judged}
use Rattle.positions.specs.Columns.{Cols, Of}
use Rattle.placing.specs.declared.Search.{Search}
use Rattle.placing.specs.declared.Search.TheVariants.{Stale, Fresh, Spent}
use Rattle.placing.specs.Searched.{Searched}

-- an answer and the list that it comes with
abbrev pub outcome : Answer → List ℕ → Outcome
outcome a l = record { answer = a; list = l }

-- an order that was found stands within its places, and is no longer than the list
abbrev pub Fits : List ℕ → List ℕ → Search → Type 0
Fits places list (Stale t) = Unit {0}
Fits places list (Fresh from to t) = (from ≤ to) × (to ≤ length places) × (to - from ≤ length list)
Fits places list Spent = Unit {0}

-- the outcome of what was found, whatever the method and the prepared history that it was found by
abbrev pub Replied : List ℕ → ℕ → List ℕ → Search → List ℕ → Outcome → Type 0
Replied rows allowance places r list out =
    (C : Cols) (H : List Op) (m : List Op → Result) → Of C H → rows ≡ row_numbers H → Searched C allowance m places r →
    out ≡ judged (length rows) allowance list (m H)
