-- LBT (document 01, "LBT"; 000, figure 2), over a prepared history H. The line numbers are the figure's. The walk knows no allowance.
-- Assumes nothing.
use Rattle.std.specs.Prelude.{ℕ, zero, suc, ◌+◌, Bool, cond, List, [], ◌∷◌, ◌++◌, leb}
use Rattle.lists.specs.Lists.{keep, all}
use Rattle.lists.specs.Sorts.{sort}
use Rattle.history.specs.declared.Op.{Op}
use Rattle.methods.specs.Prepared.{no_write, same_value}
use Rattle.methods.specs.Place.{starts_by, later, others, rest, segment, writes, write_count}
use Rattle.methods.specs.Zones.{Decision, none, order}

-- Lines 12 to 17: what is later than w decides. A write, or reads of two other writes: bad. Reads of one other write: that write is next.
-- Reads of w alone, or nothing: done.
pub data Step : Type 0 where
  bad : Step
  done : Step
  next : Op → Step

-- line 17: the dictating write, which is still there
unfoldable pub pick : List Op → Step
pick [] = bad
pick (v ∷ l) = next v

-- lines 15 and 16: the later reads of other writes have one value
unfoldable pub choose : List Op → List Op → Step
choose H [] = done
choose H (o ∷ l) = cond (all (same_value o) l) (pick (writes (keep (same_value o) H))) bad

-- line 14: no write is later
unfoldable pub step : Op → List Op → Step
step w H = cond (all no_write (later w H)) (choose H (others w H)) bad

-- Lines 10 to 22: an epoch fails, or leaves a history and has placed a list. Each step places a write, so the number of writes bounds the
-- steps, and zero is not reached.
pub data Epoch : Type 0 where
  failed : Epoch
  placed : List Op → List Op → Epoch

unfoldable pub behind : List Op → Epoch → Epoch
behind t failed = failed
behind t (placed l o) = placed l (o ++ t)

unfoldable pub epoch : ℕ → Op → List Op → Epoch
epoch zero w H = failed
epoch (suc n) w H = elim (step w H) [ bad ↦ failed | done ↦ placed (rest w H) (segment w H) | next v ↦ behind (segment w H) (epoch n v (rest w H)) ]

-- Line 3: the candidates are the writes that precede no write, by falling finish.
abbrev pub ends_later : Op → Op → Bool
ends_later w x = leb x.finish w.finish

abbrev pub free : List Op → Op → Bool
free H w = all (starts_by w) (writes H)

unfoldable pub candidates : List Op → List Op
candidates H = sort ends_later (keep (free H) (writes H))

-- Lines 4 to 7: a round tries candidates until the epoch of one succeeds. The number counts its trials, the epochs begun.
pub data Round : Type 0 where
  lost : ℕ → Round
  won : ℕ → List Op → List Op → Round

unfoldable pub onemore : Round → Round
onemore (lost t) = lost (suc t)
onemore (won t l o) = won (suc t) l o

unfoldable pub round : List Op → List Op → Round
round H [] = lost 0
round H (c ∷ l) = elim (epoch (write_count H) c H) [ failed ↦ onemore (round H l) | placed r o ↦ won 1 r o ]

-- Lines 2 to 9: the walk makes rounds until nothing is left, or one is lost. The number counts the trials of all rounds. Each round that is
-- won places a write, so the number of writes bounds the rounds.
pub data Walk : Type 0 where
  stale : ℕ → Walk
  fresh : ℕ → List Op → Walk

unfoldable pub trials : Walk → ℕ
trials (stale t) = t
trials (fresh t o) = t

unfoldable pub decided : Walk → Decision
decided (stale t) = none
decided (fresh t o) = order o

unfoldable pub follow : ℕ → List Op → Walk → Walk
follow t o (stale u) = stale (t + u)
follow t o (fresh u l) = fresh (t + u) (l ++ o)

unfoldable pub walk : ℕ → List Op → Walk
walk zero [] = fresh 0 []
walk zero (x ∷ l) = stale 0
walk (suc n) [] = fresh 0 []
walk (suc n) (x ∷ l) = elim (round (x ∷ l) (candidates (x ∷ l))) [ lost t ↦ stale t | won t r o ↦ follow t o (walk n r) ]

-- LBT (01, question 2)
abbrev pub lbt : List Op → Walk
lbt H = walk (write_count H) H
