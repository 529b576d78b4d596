use mathlib.Core.Path.{refl, ap, ◌∙◌}
use native.Mathlib.Omega.{arith}
use Rattle.methods.specs.declared.Zone.{Zone}
use Rattle.methods.specs.Zones.{low}
use Rattle.chunking.proofs.Enclosing.{small_in, found_small, inner_none, inner_end, inner_on}
use Rattle.chunking.proofs.mark_inner.Goals as goal

pub loop-a-init : goal.loop-a-init
loop-a-init c = (inner_none _ _ _ _ _ (small_in _ _ c.requires.marks_in_bounds) c.requires.clean, refl)

pub mark-requires : goal.mark-requires
mark-requires c =
    let f = found_small _ _ _ _ c.requires.marks_in_bounds c.enclose-found.ensures.written in
    λ i l. omega (arith, f i l, c.loop-a.invariant.0.long)

pub loop-a-preserved : goal.loop-a-preserved
loop-a-preserved c = (inner_on _ _ _ _ _ (small_in _ _ c.requires.marks_in_bounds) _ _ _ c.loop-a.invariant.0 (omega arith) _ c.run-span.ensures.0 c.run-span.ensures.1 c.run-span.ensures.2 _ (c.low-bottom.ensures ∙ ap (λ (z : Zone). low z) c.of.ensures) _ _ c.enclose-found.ensures _ c.mark.auto.marks c.mark.ensures, c.enclose-found.auto.out ∙ c.loop-a.invariant.1)

pub returns : goal.returns
returns c = inner_end _ _ _ _ _ (small_in _ _ c.requires.marks_in_bounds) _ _ _ c.loop-a.invariant.0 (omega arith)
