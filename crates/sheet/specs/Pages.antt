-- A page of the sheet: the number of a question and, behind it, the list that its marking call left.
-- Assumes nothing.
use Rattle.std.specs.Prelude.{ℕ, ◌<◌, ◌≡◌, List, ◌∷◌, length}
use Rattle.history.specs.declared.Answer.{Answer}
use Rattle.methods.specs.Mark.{Outcome}
use Rattle.lines.specs.Lines.{places}

-- the bytes that the programs' buffers have
abbrev pub room : ℕ
room = 65536

-- a page of an outcome, by the answer that came with it: where the mark is fresh, its rows are all on the page
pub record Page (question : ℕ) (o : Outcome) (a : Answer) (page : List ℕ) : Type 0 where
  pub answer : a ≡ o.answer
  pub cells : page ≡ question ∷ o.list
  pub long : length page ≡ places
  pub fits : a.code ≡ 0 → a.rows < places
