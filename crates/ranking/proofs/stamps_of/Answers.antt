use mathlib.Core.Path.{ap, ◌∙◌}
use native.Mathlib.Omega.{arith}
use Rattle.lists.proofs.Images.{get_d_in}
use Rattle.lists.proofs.Filled.{filled_more}
use Rattle.methods.specs.Ranks.{starting, finishing}
use Rattle.preparation.specs.Times.{time_of}
use Rattle.ranking.proofs.Ranking.{bounded}
use Rattle.ranking.proofs.stamps_of.Goals as goal

pub at-o-requires : goal.at-o-requires
at-o-requires c = c.requires.fit.inside _ (get_d_in c.args.rows.now 0 c.loop-i.i (omega arith))

pub time-requires : goal.time-requires
time-requires c =
    let b = bounded c.requires.fit (get_d_in c.args.rows.now 0 c.loop-i.i (omega arith)) in
    rw c.at-o.ensures b.0

pub time-requires-in-loop-i : goal.time-requires-in-loop-i
time-requires-in-loop-i c =
    let b = bounded c.requires.fit (get_d_in c.args.rows.now 0 c.loop-i.i (omega arith)) in
    rw c.at-o.ensures b.1

pub loop-i-preserved : goal.loop-i-preserved
loop-i-preserved c = (
  filled_more _ _ _ c.requires.starts_len _ _ _ (omega arith) (c.time.ensures ∙ ap (λ o. time_of (starting o)) c.at-o.ensures) c.loop-i.invariant.0,
  filled_more _ _ _ c.requires.finishes_len _ _ _ (omega arith) (c.time-in-loop-i.ensures ∙ ap (λ o. time_of (finishing o)) c.at-o.ensures) c.loop-i.invariant.1,
)
