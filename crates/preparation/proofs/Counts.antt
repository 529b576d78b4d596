-- Ranks, sorting and shortening keep the number of writes.
-- Assumes nothing.
use mathlib.Core.Path.{◌∙◌}
use mathlib.Core.List.{List}
use Rattle.lists.proofs.Counts.{count_map, count_sort}
use Rattle.history.specs.declared.Op.{Op}
use Rattle.history.specs.Table.{is_opening, is_write}
use Rattle.methods.specs.Ranks.{by_rank, ranked}
use Rattle.methods.specs.Prepared.{starts_first, by_start, short, prepared}
use Rattle.preparation.specs.Claims.{KeepsWrites}

pub keeps_writes : (h : List Op) → KeepsWrites h
unfolding prepared by_start ranked is_write is_opening
keeps_writes h =
    count_map (short (by_start (ranked h))) is_write (by_start (ranked h)) ∙ count_sort starts_first is_write (ranked h) ∙ count_map (by_rank h) is_write h
