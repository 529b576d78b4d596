-- The outcomes of the marking call by cases, each with what it says (document 01, "The answer and its numbers"). Every promise cites this.
-- Assumes nothing.
use Rattle.std.specs.Prelude.{ℕ, suc, ◌*◌, ◌/◌, ◌≤◌, ◌<◌, ◌≡◌, ◌⊎◌, ◌≢◌, List, length}
use Rattle.history.specs.declared.Op.{Op}
use Rattle.history.specs.declared.Answer.{Answer}
use Rattle.history.specs.declared.Code.TheVariants.{Fresh, Spent, Stale}
use Rattle.history.specs.Screen.{Screened}
use Rattle.methods.specs.Prepared.{prepared}
use Rattle.methods.specs.Place.{write_count}
use Rattle.methods.specs.Mark.{Outcome, k_of, method, row_numbers, written, answered}
use Rattle.witnesses.specs.Orders.{Orders}

-- tests 1 to 10 are passed: the register is screened, the question is one of the three, and the list has a place for each row
pub record Passes (size : ℕ) (h : List Op) (question : ℕ) (list : List ℕ) : Type 0 where
  pub screened : Screened size h
  pub asked : (question ≡ 1) ⊎ (question ≡ 2) ⊎ (question ≡ 3)
  pub room : length h ≤ length list

-- with W writes LBT is allowed W (W + 1) / 2 trials; the other methods have none (01, code 11)
abbrev pub Enough : List Op → ℕ → ℕ → Type 0
Enough h question allowance = question ≡ 2 → write_count h * suc (write_count h) / 2 ≤ allowance

-- the trials of the question's method: those of LBT's walk, else 0 (01, "The answer and its numbers")
abbrev pub trials_of : List Op → ℕ → ℕ
trials_of h question = (method question (prepared h)).trials

pub data Marked (size : ℕ) (h : List Op) (question allowance : ℕ) (list : List ℕ) : Outcome → Type 0 where
  -- a refusal, which is neither spent nor stale: some test is met, and the list is as it was
  is_refused : {a : Answer} → (Passes size h question list → ⊥) → a.code ≢ 0 → (a.code ≢ 11) × (a.code ≢ 12) →
      Marked size h question allowance list (record { answer = a; list = list })
  -- code 11: the walk has more trials than are allowed
  is_spent : Passes size h question list → allowance < trials_of h question →
      Marked size h question allowance list (record { answer = answered Spent 0 allowance; list = list })
  -- code 12: no order of all is valid and k-atomic
  is_stale : Passes size h question list → trials_of h question ≤ allowance → ((o : List Op) → Orders (k_of question) h o → ⊥) →
      Marked size h question allowance list (record { answer = answered Stale (length h) (trials_of h question); list = list })
  -- code 0: the rows of one that is are at the front of the list
  is_fresh : {o : List Op} → Passes size h question list → trials_of h question ≤ allowance → Orders (k_of question) h o →
      Marked size h question allowance list
      (record { answer = answered Fresh (length h) (trials_of h question); list = written (row_numbers o) list })
