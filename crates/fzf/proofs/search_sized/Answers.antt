-- The writes by low end are split into the forward and the backward ones, and the slices have room for them.
use mathlib.Core.Path.{ap, sym, ◌∙◌}
use mathlib.Core.Bool.{true, false}
use native.Mathlib.Omega.{arith}
use Rattle.lists.specs.Lists.{keep}
use Rattle.zones.proofs.Zone.{lates_zoned}
use Rattle.zones.proofs.LastStarts.{sound_ends}
use Rattle.zones.proofs.ByLow.{by_low_inside}
use Rattle.chunking.specs.Chunks.{faces}
use Rattle.fzf.proofs.search_sized.Goals as goal

pub by_low-m-requires-clause-ends : goal.by_low-m-requires-clause-ends
by_low-m-requires-clause-ends g c = sound_ends _ c.args.columns.now.sound

pub part-f-requires-clause-inside : goal.part-f-requires-clause-inside
part-f-requires-clause-inside g c = rw c.by_low-m.ensures.list_after (by_low_inside _ _ _ (c.args.columns.now.sound.ending ∙ sym c.args.columns.now.sound.shape.long))

pub part-b-requires-clause-inside : goal.part-b-requires-clause-inside
part-b-requires-clause-inside g c = rw c.by_low-m.ensures.list_after (by_low_inside _ _ _ (c.args.columns.now.sound.ending ∙ sym c.args.columns.now.sound.shape.long))

pub invariant_of-clusters : goal.invariant_of-clusters
invariant_of-clusters g c =
    let finish = c.args.columns.now.finish.now in
    record {
      few = omega arith;
      zoned = lates_zoned _ c.args.columns.now.sound _ c.by_low-m.ensures.lates;
      all_forward = c.part-f.ensures.1 ∙ ap (keep (faces finish c.by_low-m.new.late true)) c.by_low-m.ensures.list_after;
      all_backward = c.part-b.ensures.1 ∙ ap (keep (faces finish c.by_low-m.new.late false)) c.by_low-m.ensures.list_after;
    }
