-- DEMAND 3: what fresh and stale mean, of the outcome of a marking call; for any table, register, question, allowance and list. An order is one
-- by list positions, as the order check has it (document 01, "The row").
-- Assumes nothing.
use Rattle.std.specs.Prelude.{ℕ, ◌<◌, ◌≡◌, ◌⊎◌, ◌≢◌, ◌↔◌, List, ◌++◌, length, drop}
use Rattle.history.specs.Table.{history}
use Rattle.history.specs.Answer.{number}
use Rattle.history.specs.declared.Code.TheVariants.{Fresh, Spent, Stale}
use Rattle.atomicity.specs.Order.{Atomic}
use Rattle.methods.specs.Mark.{Outcome, k_of, mark}
use Rattle.meaning.specs.Marked.{Passes, Enough, trials_of}

module _ (t : List ℕ) (register question : ℕ) where
  -- the register passes the screening, the question is one of the three, and the list has a place for each row
  abbrev pub Ready : List ℕ → Type 0
  Ready list = Passes (length t) (history t register) question list

  -- LBT is allowed W (W + 1) / 2 trials
  abbrev pub Allowed : ℕ → Type 0
  Allowed allowance = Enough (history t register) question allowance

  -- some list is a valid k-atomic total order, with k = 1 for question 1 and k = 2 for questions 2 and 3; none is
  abbrev pub SomeOrder : Type 0
  SomeOrder = (order : List ℕ) × Atomic (k_of question) t register order

  abbrev pub NoOrder : Type 0
  NoOrder = (order : List ℕ) → ¬ Atomic (k_of question) t register order

  -- such an order is at the front of the list after the call, and the rest of the list is untouched
  pub record Written (list after : List ℕ) : Type 0 where
    pub order : List ℕ
    pub atomic : Atomic (k_of question) t register order
    pub rows : length order ≡ length (history t register)
    pub kept : after ≡ order ++ drop (length order) list

pub record Demand (t : List ℕ) (register question allowance : ℕ) (list : List ℕ) (out : Outcome) : Type 0 where
  -- given room and allowance, the mark is fresh or stale: fresh exactly when some order is valid and k-atomic, stale exactly when none is
  pub decided : Ready t register question list → Allowed t register question allowance →
      (out.answer.code ≡ number Fresh) ⊎ (out.answer.code ≡ number Stale)
  pub fresh_exactly : Ready t register question list → Allowed t register question allowance →
      (out.answer.code ≡ number Fresh) ↔ SomeOrder t register question
  pub stale_exactly : Ready t register question list → Allowed t register question allowance →
      (out.answer.code ≡ number Stale) ↔ NoOrder t register question
  -- with fresh the list holds such an order, and without it the list is untouched; and stale is never said where there is an order, whatever
  -- the allowance and the list
  pub order : out.answer.code ≡ number Fresh → Written t register question list out.list
  pub untouched : out.answer.code ≢ number Fresh → out.list ≡ list
  pub no_order : out.answer.code ≡ number Stale → NoOrder t register question
  -- a smaller allowance gives that same outcome, or spent, and spent exactly when the walk has more trials than are allowed
  pub smaller : Ready t register question list → (enough : ℕ) → Allowed t register question enough →
      (out ≡ mark t register question enough list) ⊎ (out.answer.code ≡ number Spent)
  pub spent_exactly : Ready t register question list → (out.answer.code ≡ number Spent) ↔ (allowance < trials_of (history t register) question)
  -- a mark's trials are the walk's, and 0 where the method has none
  pub counted : Ready t register question list → out.answer.code ≢ number Spent → out.answer.trials ≡ trials_of (history t register) question
  -- a shorter list, a failed screening or another question is never a fresh or stale mark
  pub neither : ¬ Ready t register question list → (out.answer.code ≢ number Fresh) × (out.answer.code ≢ number Stale)
