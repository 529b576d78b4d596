-- The last read or the write starts last, and a write whose finish is even finishes first.
use mathlib.Core.Path.{refl, ap, ◌∙◌}
use native.Mathlib.Omega.{arith}
use Rattle.lists.proofs.Images.{get_d_in}
use Rattle.history.specs.declared.Op.{Op}
use Rattle.zone_list.proofs.Walking.{last_in, whole_finish, zone_is}
use Rattle.zone_list.proofs.stamps.Goals as goal

pub offset_bounds-rows-last : goal.offset_bounds-rows-last
offset_bounds-rows-last c = omega (arith, last_in c.args.table.now c.args.rows.now _ c.args.w _ _ c.args.columns.now.sound.links c.requires.writer_len c.requires.w_in_bounds c.requires.w_value)

pub bounds-rows-last : goal.bounds-rows-last
bounds-rows-last c = omega (arith, last_in c.args.table.now c.args.rows.now _ c.args.w _ _ c.args.columns.now.sound.links c.requires.writer_len c.requires.w_in_bounds c.requires.w_value)

pub at-start-requires : goal.at-start-requires
at-start-requires c = c.requires.fit.inside _ (get_d_in c.args.rows.now 0 c.max-last.result (omega (arith, last_in c.args.table.now c.args.rows.now _ c.args.w _ _ c.args.columns.now.sound.links c.requires.writer_len c.requires.w_in_bounds c.requires.w_value)))

pub at-requires : goal.at-requires
at-requires c = c.requires.fit.inside _ (get_d_in c.args.rows.now 0 c.args.w c.requires.w_in_bounds)

pub returns-then-columns-w-eq0 : goal.returns-then-columns-w-eq0
returns-then-columns-w-eq0 c = zone_is _ _ _ _ _ c.requires.timely c.requires.writer_len c.requires.w_in_bounds c.requires.w_value _ _ c.args.columns.now.sound.links _ (omega arith) _ c.at-start.ensures _ (ap (λ (o : Op). o.finish) c.at.ensures ∙ whole_finish _ _ _ _ _ c.requires.timely c.requires.writer_len c.requires.w_in_bounds c.requires.w_value c.if-columns-w-eq0.true) _ refl

pub returns-else-columns-w-eq0 : goal.returns-else-columns-w-eq0
returns-else-columns-w-eq0 c = zone_is _ _ _ _ _ c.requires.timely c.requires.writer_len c.requires.w_in_bounds c.requires.w_value _ _ c.args.columns.now.sound.links _ (omega arith) _ c.at-start.ensures _ c.first_finish-finish.ensures _ refl
