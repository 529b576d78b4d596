-- A turn goes along records with stamps and then past one more record (`Picking`).
use Prim.Native.Nat.{◌-◌}
use lib.ListN.{length}
use Rattle.selection.specs.Selected.{Picking}
use Rattle.selection.proofs.pick.Given as goal

abbrev pub invariant-loop-pass : goal.invariant-loop-pass
invariant-loop-pass l = Picking l.bytes l.register l.pass.row l.pass.at l.pass.count l.picks

abbrev pub decreases-loop-pass : goal.decreases-loop-pass
decreases-loop-pass l = length l.bytes - l.pass.at
