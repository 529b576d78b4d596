-- What the steps of the marking call take and give.
-- Assumes nothing.
use Rattle.std.specs.Prelude.{ℕ, ◌≡◌, List, length}
use Rattle.history.specs.Table.{history}
use Rattle.methods.specs.Prepared.{prepared}
use Rattle.methods.specs.Mark.{Outcome, method, judged}
use Rattle.columns.specs.Rows.{Listed}

-- what the method of the question gives over the prepared history of a register, as an outcome
abbrev pub judged_by : List ℕ → ℕ → ℕ → ℕ → List ℕ → Outcome
judged_by t register question allowance list = judged (length (history t register)) allowance list (method question (prepared (history t register)))

-- the outcome of whatever register has these rows by rising time
abbrev pub OfRows : List ℕ → List ℕ → ℕ → ℕ → List ℕ → Outcome → Type 0
OfRows t rows question allowance list out = (register : ℕ) → Listed t register rows → out ≡ judged_by t register question allowance list
