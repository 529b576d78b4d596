-- The test of an order (document 01, "FZF"): the writes of a sequence, which stands last first, are placed one by one; what is later than a
-- write may be reads of that write and of the next one in the sequence, and nothing else.
-- Assumes nothing.
use Rattle.std.specs.Prelude.{ℕ, ◌+◌, ◌<◌, Bool, true, false, cond, List, length, get_or, eqb, ltb}
use Rattle.history.specs.declared.Op.{Op}
use Rattle.methods.specs.Zones.{Decision}
use Rattle.methods.specs.Fzf.{viable}
use Rattle.positions.specs.Places.{Once}
use Rattle.positions.specs.Columns.{ops}
use Rattle.placing.specs.States.{State, Whose}

-- nothing is asked for, or the write at i
unfoldable pub follows : List ℕ → ℕ → ℕ → Bool
follows T i asked = cond (eqb asked 0) true (cond (ltb i (length T)) (eqb asked (get_or T i 0 + 1)) false)

-- the sequence has writes that are not placed, each once
pub record Turns (writer T : List ℕ) (s : State) : Type 0 where
  pub whose : (j : ℕ) → j < length T → Whose writer s (get_or T j 0)
  pub once : Once T

-- what the definition says of the sequence, over the positions K
abbrev pub viable_by : List ℕ → List ℕ → List Op → Decision
viable_by T K H = viable (ops H T) (ops H K)
