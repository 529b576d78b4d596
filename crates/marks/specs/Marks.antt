-- The mark alone: the marking call with a list of 1,024 places inside (document 01, "Files, program, C host"), and what its code says.
-- Assumes nothing.
use Rattle.std.specs.Prelude.{ℕ, ◌≤◌, ◌≡◌, ◌⊎◌, ◌≢◌, ◌↔◌, List, length, replicate}
use Rattle.history.specs.declared.Answer.{Answer}
use Rattle.history.specs.Table.{history, largest_count}
use Rattle.history.specs.Answer.{number}
use Rattle.history.specs.declared.Code.TheVariants.{Fresh, Spent, Stale}
use Rattle.history.specs.Screen.{Screened}
use Rattle.methods.specs.Mark.{mark}
use Rattle.meaning.specs.Demand.{SomeOrder, NoOrder}

-- the answer of the marking call, whose list has 1,024 places (01, "Files, program, C host")
unfoldable pub answer_to : List ℕ → ℕ → ℕ → ℕ → Answer
answer_to t register question allowance = (mark t register question allowance (replicate largest_count 0)).answer

-- the trials that LBT is allowed by the C host: W (W + 1) / 2 with 1,024 writes (01, "Files, program, C host")
abbrev pub most_trials : ℕ
most_trials = 524800

-- the allowance is enough for every register
abbrev pub Ample : ℕ → ℕ → Type 0
Ample question allowance = question ≡ 2 → most_trials ≤ allowance

-- the register passes the screening, and the question is one of the three
pub record Askable (t : List ℕ) (register question : ℕ) : Type 0 where
  pub screened : Screened (length t) (history t register)
  pub asked : (question ≡ 1) ⊎ (question ≡ 2) ⊎ (question ≡ 3)

-- What a code says with an ample allowance: it is fresh or stale exactly where the register passes the screening, fresh exactly where some order is
-- valid and k-atomic, and stale exactly where none is; and it is never spent.
pub record Said (t : List ℕ) (register question code : ℕ) : Type 0 where
  pub decided : ((code ≡ number Fresh) ⊎ (code ≡ number Stale)) ↔ Askable t register question
  pub fresh_exactly : (code ≡ number Fresh) ↔ (Askable t register question × SomeOrder t register question)
  pub stale_exactly : (code ≡ number Stale) ↔ (Askable t register question × NoOrder t register question)
  pub unspent : code ≢ number Spent
