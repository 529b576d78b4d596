-- What the theorems about LBT say, of a walk over a prepared history H (000, section III; document 01, "LBT").
-- Assumes nothing.
use Rattle.std.specs.Prelude.{◌*◌, ◌-◌, ◌≤◌, List}
use Rattle.history.specs.declared.Op.{Op}
use Rattle.methods.specs.Place.{write_count}
use Rattle.methods.specs.Lbt.{Walk, stale, fresh, trials, decided}
use Rattle.witnesses.specs.Orders.{Orders}
use Rattle.witnesses.specs.Decides.{Decides}

-- a fresh walk's list is a valid 2-atomic order (000, theorem 3.1, its first half)
abbrev pub Says : List Op → Walk → Type 0
Says H (stale t) = Unit {0}
Says H (fresh t o) = Orders 2 H o

-- the walk decides 2-atomicity (000, theorem 3.1)
abbrev pub LbtDecides : List Op → Walk → Type 0
LbtDecides H w = Decides 2 H (decided w)

-- with W writes it has at most 2W - 1 trials (01, "LBT": a trial is one candidate's epoch begun)
abbrev pub FewTrials : List Op → Walk → Type 0
FewTrials H w = trials w ≤ 2 * write_count H - 1
