-- What a step of the placing says (000, figure 2, lines 13 to 20): it fails by what is late, or it places a write with its container, and tells
-- which write the late reads ask for. It is said of the columns, and of every prepared history that has them.
-- Assumes nothing.
use Rattle.std.specs.Prelude.{ℕ, ◌+◌, ◌<◌, ◌≡◌, true, false, ◌≢◌, get_or}
use Rattle.methods.specs.Place.{rest, segment}
use Rattle.positions.specs.Columns.{Cols, op, ops, Says}
use Rattle.placing.specs.States.{State, Tried, left, Holds, Whose}
use Rattle.placing.specs.Added.{Added}
use Rattle.placing.specs.Scanned.{Kinds, Asking, Broken}

-- the finish of w
abbrev pub ending : Cols → ℕ → ℕ
ending C w = get_or C.finish w 0

-- all that is later than w are reads of w or of the write that is asked for, which one of them asks for
pub record Told (C : Cols) (w : ℕ) (s : State) (asked : ℕ) : Type 0 where
  pub kinds : Kinds C.start C.writer w (ending C w) s 0 asked
  pub asks : Asking C.start C.writer w (ending C w) s 0 asked

-- w is placed: what is left then, what was put in front, and what is asked for
pub record Went (C : Cols) (w : ℕ) (s : State) (r : Tried) : Type 0 where
  pub added : Added s r.state
  pub holds : Holds C r.state
  pub less : r.state.at < s.at
  pub keeps : (v : ℕ) → v ≢ w → Whose C.writer s v → Whose C.writer r.state v
  pub leaves : Says C (λ H. rest (op H w) (ops H (left s)) ≡ ops H (left r.state))
  pub segments : Says C (λ H. segment (op H w) (ops H (left s)) ≡ ops H added.ops)
  pub told : Told C w s r.asked
  pub next : (v : ℕ) → r.asked ≡ v + 1 → Whose C.writer r.state v

-- THE CONTRACT of a step; where it fails, what it placed before that is added too
pub data Stepped (C : Cols) (w : ℕ) (s : State) (r : Tried) : Type 0 where
  fails : r.failed ≡ true → Added s r.state → Broken C.start C.writer w (ending C w) s → Stepped C w s r
  goes : r.failed ≡ false → Went C w s r → Stepped C w s r
