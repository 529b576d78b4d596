-- What an epoch of the code says (000, figure 2, lines 10 to 22): it is the epoch of the definition, over every prepared history that has
-- the columns.
-- Assumes nothing.
use Rattle.std.specs.Prelude.{ℕ, ◌<◌, ◌≡◌, List, Option, Some, None}
use Rattle.history.specs.declared.Op.{Op}
use Rattle.methods.specs.Place.{write_count}
use Rattle.methods.specs.Lbt.{Epoch, failed, placed, epoch}
use Rattle.positions.specs.Columns.{Cols, op, ops, Says}
use Rattle.placing.specs.States.{State, left, state_of, Holds}
use Rattle.placing.specs.Added.{Added, Kept}
use Rattle.placing.specs.declared.Front.{Front}

-- the epoch of the definition from w, over what a state leaves of H
abbrev pub epoch_of : List Op → State → ℕ → Epoch
epoch_of H s w = epoch (write_count (ops H (left s))) (op H w) (ops H (left s))

-- from s the epoch of w wins, and ends in r: what is left then, and what was put in front
pub record Wins (C : Cols) (w : ℕ) (s r : State) : Type 0 where
  pub added : Added s r
  pub holds : Holds C r
  pub less : r.at < s.at
  pub whole : Says C (λ H. epoch_of H s w ≡ placed (ops H (left r)) (ops H added.ops))

-- THE CONTRACT of an epoch: a trial that fails leaves every mark as it found it, and one that wins has marked just what it placed (02, W-202)
pub data Ran (C : Cols) (w : ℕ) (s : State) (marks cells : List ℕ) : Option Front → Type 0 where
  loses : Kept s marks cells → Says C (λ H. epoch_of H s w ≡ failed) → Ran C w s marks cells None
  wins : {front : Front} → Wins C w s (state_of marks cells front.at front.top) → Ran C w s marks cells (Some front)
