-- The loop joins the items from the cursor on; the lent slices keep their lengths.
use Prim.Native.Nat.{◌+◌, ◌-◌}
use mathlib.Core.Path.{◌≡◌}
use lib.ListN.{length}
use Rattle.positions.specs.View.{view}
use Rattle.joining.specs.Items.{forths, backs, Lent, Poised}
use Rattle.joining.proofs.Joining.{Joining}
use Rattle.joining.proofs.join.Given as goal

abbrev pub invariant-loop-cursor : goal.invariant-loop-cursor
invariant-loop-cursor l = let C = view l.clusters.columns in
    Joining C (forths C l.clusters.late.now) (backs C l.clusters.late.now) l.order l.m l.cursor.forward l.cursor.backward
    × Poised C l.clusters.late.now (forths C l.clusters.late.now) (backs C l.clusters.late.now) l.cursor.forward l.cursor.inner l.placed
    × Lent (length l.clusters.columns.start.now) l.list l.turn l.placed l.part
    × (length l.list ≡ length l.initial.list) × (length l.turn ≡ length l.initial.turn) × (length l.placed ≡ length l.initial.placed)
    × (length l.part ≡ length l.initial.part) × (length l.order ≡ length l.initial.order)

abbrev pub decreases-loop-cursor : goal.decreases-loop-cursor
decreases-loop-cursor l = (length l.clusters.forwards.now + length l.clusters.backwards.now) - (l.cursor.forward + l.cursor.backward)
