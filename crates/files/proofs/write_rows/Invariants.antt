-- The loop puts a record a turn behind those that stand in the bytes already (`Writing`).
use Rattle.files.proofs.Measuring.{Writing}
use Rattle.files.proofs.write_rows.Given as goal

abbrev pub invariant-loop-i : goal.invariant-loop-i
invariant-loop-i l = Writing l.table l.initial.bytes l.i l.at l.bytes
