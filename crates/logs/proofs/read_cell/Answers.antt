-- The five columns in their sequence: at each return those before were another's, and this one is the cell's.
use native.Mathlib.Omega.{arith}
use Rattle.std.proofs.lemmas.Grind.{common_steps}
use Rattle.log_tables.specs.Logs.{said_in}
use Rattle.logs.proofs.read_cell.Goals as goal

pub returns-then-k-columns : goal.returns-then-k-columns
unfolding said_in
returns-then-k-columns c = grind (arith, common_steps)

pub returns-then-k-columns-3 : goal.returns-then-k-columns-3
unfolding said_in
returns-then-k-columns-3 c = grind (arith, common_steps)

pub returns-then-k-columns-5 : goal.returns-then-k-columns-5
unfolding said_in
returns-then-k-columns-5 c = grind (arith, common_steps)

pub returns-else-k-columns-5 : goal.returns-else-k-columns-5
unfolding said_in
returns-else-k-columns-5 c = grind (arith, common_steps)
