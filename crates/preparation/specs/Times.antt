-- The time of a stamp: one number, in which the opening's stamps lie below all others (document 02, W-207).
-- Assumes nothing.
use Rattle.std.specs.Prelude.{ℕ, ◌+◌, Bool, List, leb}
use Rattle.lists.specs.Sorts.{sort}
use Rattle.history.specs.declared.Op.{Op}
use Rattle.methods.specs.Ranks.{Event, starting}

-- the opening's stamp, which is 0, or one more than another's (02, W-207)
abbrev pub time_of : Event → ℕ
time_of e = e.level + e.stamp

-- the operations by rising time of their starts (02, W-207: the opening precedes every other row)
abbrev pub begins_first : Op → Op → Bool
begins_first x y = leb (time_of (starting x)) (time_of (starting y))

unfoldable pub by_time : List Op → List Op
by_time h = sort begins_first h
