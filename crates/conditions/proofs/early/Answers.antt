use native.Mathlib.Omega.{arith}
use Rattle.lists.proofs.Images.{get_d_in}
use Rattle.conditions.proofs.early.Goals as goal

pub at-requires : goal.at-requires
at-requires c = c.requires _ (get_d_in c.args.rows.now 0 c.args.writer (omega arith))
