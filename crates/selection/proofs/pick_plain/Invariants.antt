-- The loop goes along records with stamps, for which there is room up to the end (`Picking`).
use Prim.Native.Nat.{◌+◌, ◌*◌, ◌-◌, ◌≤◌}
use lib.ListN.{length}
use Rattle.selection.specs.Selected.{Picking}
use Rattle.selection.proofs.pick_plain.Given as goal

abbrev pub invariant-loop-pass : goal.invariant-loop-pass
invariant-loop-pass l = record {
  few : l.end ≤ 1024;
  within : l.pass.row ≤ l.end;
  room : l.pass.at + (l.end - l.pass.row) * 36 ≤ length l.bytes;
  behind : l.fn.from.at ≤ l.pass.at;
  picking : Picking l.bytes l.register l.pass.row l.pass.at l.pass.count l.picks;
}

abbrev pub decreases-loop-pass : goal.decreases-loop-pass
decreases-loop-pass l = l.end - l.pass.row
