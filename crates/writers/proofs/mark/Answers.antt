use mathlib.Core.Path.{◌∙◌, sym, ap}
use Prim.Native.Nat.{◌-◌}
use Rattle.history.specs.Table.{is_write}
use Rattle.lists.proofs.Images.{get_d_in}
use native.Mathlib.Omega.{arith}
use Rattle.writers.proofs.Marking.{mark_none, mark_in, mark_out}
use Rattle.writers.proofs.mark.Goals as goal

pub loop-i-init : goal.loop-i-init
loop-i-init c = mark_none _ _ _ c.requires.firsts _ c.requires.slots_len c.requires.slots_empty

pub at-o-requires : goal.at-o-requires
at-o-requires c = c.requires.within _ (get_d_in c.args.rows.now 0 (c.loop-i.i - 1) (omega arith))

pub loop-i-preserved-then-is_write : goal.loop-i-preserved-then-is_write
loop-i-preserved-then-is_write c = mark_in _ _ _ c.requires.firsts _ _ (omega arith) c.loop-i.invariant (ap is_write (sym c.at-o.ensures) ∙ sym c.is_write.ensures ∙ c.if-is_write.true)

pub loop-i-preserved : goal.loop-i-preserved
loop-i-preserved c = mark_out _ _ _ c.requires.firsts _ _ (omega arith) c.loop-i.invariant (ap is_write (sym c.at-o.ensures) ∙ sym c.is_write.ensures ∙ c.if-is_write.false)
