-- The loop looks at the rows in sequence: the lowest row of the whole is the lowest from here on (`Scan`).
use lib.ListN.{length, get_or}
use Rattle.lists.specs.Lists.{first}
use Rattle.lists.proofs.Scans.{Scan}
use Rattle.conditions.specs.Tests.{shows, lowest_at}
use Rattle.conditions.proofs.lowest.Given as goal

abbrev pub invariant-loop-i : goal.invariant-loop-i
invariant-loop-i l = Scan (lowest_at (shows l.test l.table l.rows l.column) l.rows) (λ xs. first (λ j. get_or l.rows j 0) (shows l.test l.table l.rows l.column) xs) (length l.rows) l.i
