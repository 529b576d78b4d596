use Prim.Native.Nat.{◌-◌}
use mathlib.Core.Path.{refl, ap}
use native.Mathlib.Omega.{arith}
use Rattle.lists.proofs.Images.{get_d_in}
use Rattle.history.specs.declared.Op.{Op}
use Rattle.zone_list.proofs.Walking.{walked_none, walked_in, walked_less, walked_more, walked_end}
use Rattle.zone_list.proofs.first_finish.Goals as goal

pub at-finish-requires : goal.at-finish-requires
at-finish-requires c = c.requires.fit.inside _ (get_d_in c.args.rows.now 0 c.args.w c.requires.w_in_bounds)

pub loop-k-init : goal.loop-k-init
loop-k-init c = walked_none _ _ _ _ _ (c.args.columns.now.sound.links.lasts c.args.w (omega arith) c.requires.w_value) _ (ap (λ (o : Op). o.finish) c.at-finish.ensures)

pub offset_bounds-rows-i : goal.offset_bounds-rows-i
offset_bounds-rows-i c = omega (arith, walked_in _ _ _ _ _ _ c.loop-k.invariant)

pub bounds-rows-i : goal.bounds-rows-i
bounds-rows-i c = omega (arith, walked_in _ _ _ _ _ _ c.loop-k.invariant)

pub at-read-requires : goal.at-read-requires
at-read-requires c = c.requires.fit.inside _ (get_d_in c.args.rows.now 0 (c.loop-k.k - 1) (omega (arith, walked_in _ _ _ _ _ _ c.loop-k.invariant)))

pub offset_bounds-columns-i : goal.offset_bounds-columns-i
offset_bounds-columns-i c = omega (arith, walked_in _ _ _ _ _ _ c.loop-k.invariant)

pub bounds-columns-i : goal.bounds-columns-i
bounds-columns-i c = omega (arith, walked_in _ _ _ _ _ _ c.loop-k.invariant)

pub loop-k-smaller : goal.loop-k-smaller
loop-k-smaller c = walked_less _ _ _ _ _ _ c.loop-k.invariant _ _ c.args.columns.now.sound.links (omega arith) _ refl

pub loop-k-preserved : goal.loop-k-preserved
loop-k-preserved c = walked_more _ _ _ _ _ _ c.loop-k.invariant _ _ c.args.columns.now.sound.links (omega arith) _ refl _ _ refl (omega (arith, c.min-finish.ensures, ap (λ (o : Op). o.finish) c.at-read.ensures))

pub returns : goal.returns
returns c = walked_end _ _ _ _ _ _ c.loop-k.invariant (omega arith)
