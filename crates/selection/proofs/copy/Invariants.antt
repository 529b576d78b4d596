-- The loop puts a row a turn behind those that stand in the table already (`Filling`).
use lib.ListN.{length, get_or}
use Rattle.records.specs.Records.{record_from, cells}
use Rattle.files.proofs.Filling.{Filling}
use Rattle.selection.proofs.copy.Given as goal

abbrev pub invariant-loop-i : goal.invariant-loop-i
invariant-loop-i l = Filling (λ k. cells (record_from l.bytes (get_or l.picks k 0))) l.initial.table (length l.picks) l.i l.table
