-- What LBT and FZF share (000, figure 1, and figure 2, lines 13 to 20; document 01, "LBT" and "FZF"): a write w is put in front of all that
-- is placed already, with its container of reads behind it. H is what is not placed yet. The line numbers are those of figure 2.
-- A prepared history is listed by rising start, so reads taken from it in its sequence go by start (01, "LBT").
-- Assumes nothing.
use Rattle.std.specs.Prelude.{ℕ, Bool, not, List, ◌∷◌, ◌++◌, ltb, length}
use Rattle.lists.specs.Lists.{keep}
use Rattle.history.specs.declared.Op.{Op}
use Rattle.history.specs.Table.{is_write}
use Rattle.methods.specs.Prepared.{no_write, same_value}

-- lines 13 and 15: o has another value than w; it starts after the finish of w; it does not
abbrev pub other_value : Op → Op → Bool
other_value w o = not (same_value w o)

abbrev pub starts_after : Op → Op → Bool
starts_after w o = ltb w.finish o.start

abbrev pub starts_by : Op → Op → Bool
starts_by w o = not (starts_after w o)

-- line 13: what starts after the finish of w, and what does not; line 15: of the first, what does not have the value of w
abbrev pub later : Op → List Op → List Op
later w H = keep (starts_after w) H

abbrev pub early : Op → List Op → List Op
early w H = keep (starts_by w) H

abbrev pub others : Op → List Op → List Op
others w H = keep (other_value w) (later w H)

-- lines 18 and 20: what the placing of w leaves, which is nothing later, and neither w nor its reads
abbrev pub rest : Op → List Op → List Op
rest w H = keep (other_value w) (early w H)

-- line 19: the reads of w that are not later
abbrev pub reads : Op → List Op → List Op
reads w H = keep no_write (keep (same_value w) (early w H))

-- lines 18 and 20: what the placing of w places, which is w, those reads, and all that is later
abbrev pub segment : Op → List Op → List Op
segment w H = w ∷ (reads w H ++ later w H)

-- line 1: the writes; and their number
abbrev pub writes : List Op → List Op
writes H = keep is_write H

abbrev pub write_count : List Op → ℕ
write_count H = length (writes H)
