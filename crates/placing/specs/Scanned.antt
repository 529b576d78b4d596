-- What a scan says: from the top down, what starts after `bound` is placed, unless it is a write or a read of a second other write
-- (000, figure 2, lines 13 to 18).
-- Assumes nothing.
use Rattle.std.specs.Prelude.{ℕ, ◌+◌, ◌≤◌, ◌<◌, ◌≡◌, Bool, true, false, not, ◌⊎◌, ◌≢◌, List, ◌++◌, length, get_or, ltb}
use Rattle.positions.specs.Places.{upto, and}
use Rattle.placing.specs.States.{State, Tried, is_free, laid}
use Rattle.placing.specs.Added.{Added}

-- j starts after bound
abbrev pub late : List ℕ → ℕ → ℕ → Bool
late start bound j = ltb bound (get_or start j 0)

module _ (start writer : List ℕ) (w bound : ℕ) where
  -- j is late and not placed
  abbrev pub Late : State → ℕ → Bool
  Late s = and (is_free s.placed) (late start bound)

  -- j was met when the scan stood at k
  pub record Met (s : State) (k j : ℕ) : Type 0 where
    pub from : k ≤ j
    pub under : j < s.top
    pub after : bound < get_or start j 0
    pub free : is_free s.placed j ≡ true

  -- another write than w is asked for, by j
  pub record Asks (s : State) (k asked j : ℕ) : Type 0 where
    pub met : Met s k j
    pub other : get_or writer j 0 ≢ w
    pub name : asked ≡ get_or writer j 0 + 1

  -- what is met is a read of w or of the write that is asked for
  abbrev pub Kinds : State → ℕ → ℕ → Type 0
  Kinds s k asked = (j : ℕ) → Met s k j → (get_or writer j 0 ≢ j) × ((get_or writer j 0 ≡ w) ⊎ (asked ≡ get_or writer j 0 + 1))

  -- no write is asked for, or one that something met asks for
  abbrev pub Asking : State → ℕ → ℕ → Type 0
  Asking s k asked = (asked ≡ 0) ⊎ ((j : ℕ) × Asks s k asked j)

  -- a late write, or late reads of two other writes
  pub data Broken (s : State) : Type 0 where
    a_write : (j : ℕ) → Met s 0 j → get_or writer j 0 ≡ j → Broken s
    two : (i j : ℕ) → Met s 0 i → Met s 0 j → get_or writer i 0 ≢ w → get_or writer j 0 ≢ w → get_or writer i 0 ≢ get_or writer j 0 → Broken s

  -- everything late is placed, and what it asks for is known
  pub record Passed (s r : State) (asked : ℕ) : Type 0 where
    pub added : Added s r
    pub within : r.top ≤ s.top
    pub over : (j : ℕ) → r.top ≤ j → j < s.top → bound < get_or start j 0
    pub order : laid r ≡ upto (Late s) s.top ++ laid s
    pub free : (j : ℕ) → j < length start → is_free r.placed j ≡ and (is_free s.placed) (λ i. not (late start bound i)) j
    pub kinds : Kinds s 0 asked
    pub asks : Asking s 0 asked

  -- THE CONTRACT of the scan; where it fails, what it placed before that is added too
  pub data Scanned (s : State) (r : Tried) : Type 0 where
    broke : r.failed ≡ true → Added s r.state → Broken s → Scanned s r
    passed : r.failed ≡ false → Passed s r.state r.asked → Scanned s r
