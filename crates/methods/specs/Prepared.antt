-- The prepared history (document 01, "Doubled stamps"; document 02, W-203; 000, section II.C): a register's operations by rising start, with doubled
-- ranks for stamps, and the writes shortened. This is the one place where stamps become what the methods work on.
-- Assumes nothing.
use Rattle.std.specs.Prelude.{ℕ, ◌*◌, ◌-◌, Bool, cond, not, List, [], ◌∷◌, map, ltb, leb, eqb}
use Rattle.lists.specs.Lists.{keep}
use Rattle.lists.specs.Sorts.{sort}
use Rattle.history.specs.declared.Op.{Op}
use Rattle.history.specs.Table.{is_write}
use Rattle.methods.specs.Extremes.{least}
use Rattle.methods.specs.Ranks.{stamped, ranked}

-- no write: in a prepared history, a read (01, "The row": kind 1 or 2)
abbrev pub no_write : Op → Bool
no_write o = not (is_write o)

-- o has the value of the write w (01, "The row")
abbrev pub same_value : Op → Op → Bool
same_value w o = eqb o.value w.value

-- the dictated reads of w, in the history's sequence (000, section II.A)
abbrev pub reads_of : List Op → Op → List Op
reads_of h w = keep no_write (keep (same_value w) h)

-- the operations by rising start (01, "LBT": reads in a container go by start)
abbrev pub starts_first : Op → Op → Bool
starts_first x y = leb x.start y.start

unfoldable pub by_start : List Op → List Op
by_start h = sort starts_first h

-- the dictated reads that finish below their write w (01, "Doubled stamps")
abbrev pub finishes_below : Op → Op → Bool
finishes_below w r = ltb r.finish w.finish

abbrev pub cutting : List Op → Op → List Op
cutting h w = keep (finishes_below w) (reads_of h w)

-- the finish that they leave the write: the smallest such doubled finish minus 1, or without any its own doubled (01, "Doubled stamps")
unfoldable pub shortened : Op → List Op → ℕ
shortened w [] = 2 * w.finish
shortened w (r ∷ rs) = 2 * least (λ o. o.finish) r.finish rs - 1

-- the new finish of an operation: a write's so shortened, a read's doubled (01, "Doubled stamps")
unfoldable pub new_finish : List Op → Op → ℕ
new_finish h o = cond (is_write o) (shortened o (cutting h o)) (2 * o.finish)

-- the operation with its new stamps, and the history with them (01, "Doubled stamps")
abbrev pub short : List Op → Op → Op
short h o = stamped (2 * o.start) (new_finish h o) o

abbrev pub shorten : List Op → List Op
shorten h = map (short h) h

-- the history that zones, LBT and FZF work on (01, "Doubled stamps"; 02, W-203)
unfoldable pub prepared : List Op → List Op
prepared h = shorten (by_start (ranked h))
