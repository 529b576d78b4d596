-- The mark, and the number behind it.
use Prim.Native.Nat.{◌-◌}
use mathlib.Core.Path.{◌∙◌}
use native.Mathlib.Omega.{arith}
use lib.ListN.{length}
use Rattle.clock.proofs.Reading.{field_none, field_other, field_some}
use Rattle.clock.proofs.field.Goals as goal

pub returns-in-len1-up : goal.returns-in-len1-up
returns-in-len1-up c = c.number_of.ensures ∙ field_some _ _ (length c.args.text.now - 1) (omega arith) c.if-first-begin.true (omega arith)

pub returns-in_default : goal.returns-in_default
returns-in_default c = field_none _ _ c.in_default.len_below

pub returns-in_default-2 : goal.returns-in_default-2
returns-in_default-2 c = field_other _ _ (omega arith) c.if-first-begin.false
