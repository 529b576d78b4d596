-- The state of a search over the columns: a mark for each operation that is placed, and an order that is filled from the back.
-- Assumes nothing.
use Rattle.std.specs.Prelude.{ℕ, ◌+◌, ◌≤◌, ◌<◌, ◌≡◌, Bool, true, false, List, length, get_or, drop, eqb, Option, Some, None, Result, Ok, Err}
use Rattle.history.specs.Table.{largest_count}
use Rattle.positions.specs.Places.{upto}
use Rattle.positions.specs.Columns.{Cols, size, wr}
use Rattle.placing.specs.declared.Placed.{Placed}
use Rattle.placing.specs.declared.Failed.{Failed}

-- what is placed is marked, and stands in the order from `at` on; nothing from `top` on is left to place
pub record State : Type 0 where
  pub placed : List ℕ
  pub order : List ℕ
  pub at : ℕ
  pub top : ℕ

-- what was tried, with the state that it left; asked is the write that is asked for plus one, 0 for none
pub record Tried : Type 0 where
  pub state : State
  pub asked : ℕ
  pub failed : Bool

-- the operation at j is not placed
abbrev pub is_free : List ℕ → ℕ → Bool
is_free p j = eqb (get_or p j 0) 0

-- what is not placed, rising
abbrev pub left : State → List ℕ
left s = upto (is_free s.placed) s.top

-- the order so far
abbrev pub laid : State → List ℕ
laid s = drop s.at s.order

-- the state of lent marks and a lent order, and what was tried with them
abbrev pub state_of : List ℕ → List ℕ → ℕ → ℕ → State
state_of placed order at top = record { placed = placed; order = order; at = at; top = top }

-- the write that is asked for plus one, 0 for none
abbrev pub plus_one : Option ℕ → ℕ
plus_one None = 0
plus_one (Some v) = v + 1

-- of a step that failed only the order so far is told
abbrev pub tried_of : List ℕ → List ℕ → Result Placed Failed → Tried
tried_of placed order (Ok s) = record { state = state_of placed order s.front.at s.front.top; asked = plus_one s.asked; failed = false }
tried_of placed order (Err f) = record { state = state_of placed order f.at 0; asked = 0; failed = true }

-- nothing of the n operations is set free
abbrev pub Shrinks : ℕ → List ℕ → List ℕ → Type 0
Shrinks n old placed = (j : ℕ) → j < n → is_free placed j ≡ true → is_free old j ≡ true

-- a state of n operations with room for those that are left, of which none is from the top on
pub record Ready (n : ℕ) (s : State) : Type 0 where
  pub size : n ≤ largest_count
  pub within : s.top ≤ n
  pub marks : n ≤ length s.placed
  pub high : s.at ≤ length s.order
  pub room : length (left s) ≤ s.at
  pub above : (j : ℕ) → s.top ≤ j → j < n → is_free s.placed j ≡ false

-- a state between two steps: ready, and with each operation that is left its write is left
pub record Holds (C : Cols) (s : State) : Type 0 where
  pub ready : Ready (size C) s
  pub closed : (j : ℕ) → j < size C → is_free s.placed j ≡ true → is_free s.placed (wr C j) ≡ true

-- w is a write that is not placed
pub record Whose (writer : List ℕ) (s : State) (w : ℕ) : Type 0 where
  pub inside : w < length writer
  pub write : get_or writer w 0 ≡ w
  pub free : is_free s.placed w ≡ true
