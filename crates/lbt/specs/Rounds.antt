-- What a round of the code says (000, figure 2, lines 3 to 7): it is the round of the definition, unless the allowance is used up first.
-- Assumes nothing.
use Rattle.std.specs.Prelude.{ℕ, ◌+◌, ◌≤◌, ◌<◌, ◌≡◌, Bool, false, List, length, get_or}
use Rattle.history.specs.declared.Op.{Op}
use Rattle.methods.specs.Lbt.{candidates, Round, lost, won, round}
use Rattle.positions.specs.Places.{and, latest}
use Rattle.positions.specs.Columns.{Cols, size, is_own, ops, Says}
use Rattle.placing.specs.States.{State, is_free, left, state_of, Whose}
use Rattle.placing.specs.Added.{Kept}
use Rattle.placing.specs.declared.Front.{Front}
use Rattle.lbt.specs.Epochs.{Wins}
use Rattle.lbt.specs.declared.Turn.{Turn}
use Rattle.lbt.specs.declared.Turn.TheVariants.{Lost, Won, Spent}

-- a write that is not placed
abbrev pub open_write : List ℕ → List ℕ → ℕ → Bool
open_write writer p = and (is_free p) (is_own writer)

-- low is one more than the last write that is not placed
pub record Lowest (C : Cols) (s : State) (low : ℕ) : Type 0 where
  pub some : 0 < low
  pub last : latest (open_write C.writer s.placed) (size C) ≡ low

-- the writes of F before r are placed
pub record Skipped (F p : List ℕ) (r : ℕ) : Type 0 where
  pub high : r ≤ length F
  pub gone : (i : ℕ) → i < r → is_free p (get_or F i 0) ≡ false

-- the round of the definition, over what a state leaves of H
abbrev pub round_of : List Op → State → Round
round_of H s = round (ops H (left s)) (candidates (ops H (left s)))

-- the trials of a round
unfoldable pub tried : Round → ℕ
tried (lost t) = t
tried (won t l o) = t

-- THE CONTRACT of a round of n trials: s is the state and base the trials before it, marks and cells are what is lent after it
pub data Turned (C : Cols) (s : State) (base allowance : ℕ) (marks cells : List ℕ) : Turn → Type 0 where
  is_lost : (n : ℕ) {t : ℕ} → Kept s marks cells → t ≡ base + n → t ≤ allowance → Says C (λ H. round_of H s ≡ lost n) →
      Turned C s base allowance marks cells (Lost t)
  is_won : (n w : ℕ) {front : Front} {t : ℕ} → t ≡ base + n → t ≤ allowance → Whose C.writer s w → (x : Wins C w s (state_of marks cells front.at front.top)) →
      Says C (λ H. round_of H s ≡ won n (ops H (left (state_of marks cells front.at front.top))) (ops H x.added.ops)) →
      Turned C s base allowance marks cells (Won front t)
  is_spent : Kept s marks cells → Says C (λ H. allowance < base + tried (round_of H s)) → Turned C s base allowance marks cells Spent
