-- The loop looks at the rows in sequence: the lowest row of the whole is the lowest from here on (`Scan`).
use Prim.Native.Nat.{◌/◌}
use lib.ListN.{length}
use mathlib.Core.List.{map}
use Rattle.lists.proofs.Scans.{Scan}
use Rattle.history.specs.Table.{op_at}
use Rattle.history.specs.Answer.{lowest_row}
use Rattle.history.specs.Screen.{stray_opening}
use Rattle.files.specs.Files.{ops_of}
use Rattle.files.proofs.lowest_stray.Given as goal

abbrev pub invariant-loop-i : goal.invariant-loop-i
invariant-loop-i l = Scan (lowest_row stray_opening (ops_of l.table)) (λ xs. lowest_row stray_opening (map (op_at l.table) xs)) (length l.table / 5) l.i
