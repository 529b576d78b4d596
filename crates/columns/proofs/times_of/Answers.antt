use mathlib.Core.Path.{refl, ap, ◌∙◌}
use native.Mathlib.Omega.{arith}
use Rattle.lists.proofs.Images.{get_d_in}
use Rattle.methods.specs.Ranks.{starting}
use Rattle.preparation.specs.Times.{time_of}
use Rattle.ranking.proofs.Ranking.{bounded}
use Rattle.columns.proofs.Keying.{keying_inside, keying_more, keying_end}
use Rattle.columns.proofs.times_of.Goals as goal

pub at-o-requires : goal.at-o-requires
at-o-requires c = c.requires.fit.inside _ (get_d_in c.args.rows.now 0 c.loop-x.x-index (omega arith))

pub time-requires : goal.time-requires
time-requires c = rw c.at-o.ensures (bounded c.requires.fit (get_d_in c.args.rows.now 0 c.loop-x.x-index (omega arith))).0

pub offset_bounds-keys-row : goal.offset_bounds-keys-row
offset_bounds-keys-row c = omega (arith, c.requires.fit.inside _ (get_d_in c.args.rows.now 0 c.loop-x.x-index (omega arith)))

pub bounds-keys-row : goal.bounds-keys-row
bounds-keys-row c = keying_inside _ _ _ c.requires.fit.inside c.requires.table_in_bounds _ _ (omega arith) c.loop-x.invariant

pub loop-x-preserved : goal.loop-x-preserved
loop-x-preserved c = keying_more _ _ _ _ _ _ _ refl (keying_inside _ _ _ c.requires.fit.inside c.requires.table_in_bounds _ _ (omega arith) c.loop-x.invariant) (c.time.ensures ∙ ap (λ o. time_of (starting o)) c.at-o.ensures) c.loop-x.invariant

pub returns : goal.returns
returns c = keying_end _ _ _ _ _ (omega arith) c.loop-x.invariant
