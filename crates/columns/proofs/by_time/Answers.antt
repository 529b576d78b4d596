use Prim.Native.Nat.{◌-◌}
use mathlib.Core.Path.{◌≡◌, ap, ◌∙◌}
use native.Mathlib.Omega.{arith}
use Rattle.lists.proofs.Images.{get_d_in}
use Rattle.methods.specs.Ranks.{starting}
use Rattle.preparation.specs.Times.{time_of}
use Rattle.ranking.proofs.Ranking.{bounded}
use Rattle.columns.proofs.Rising.{rising_none, rising_more}
use Rattle.columns.proofs.Keying.{in_turn}
use Rattle.columns.proofs.by_time.Goals as goal

pub loop-place-init : goal.loop-place-init
loop-place-init c = rising_none _ _ _

pub at-o-requires : goal.at-o-requires
at-o-requires c = c.requires.inside _ (get_d_in c.args.rows.now 0 (c.loop-place.place - 1) (omega (arith, c.loop-place.invariant.within)))

pub time-time-requires : goal.time-time-requires
time-time-requires c = rw c.at-o.ensures (bounded c.requires (get_d_in c.args.rows.now 0 (c.loop-place.place - 1) (omega (arith, c.loop-place.invariant.within)))).0

pub loop-place-preserved : goal.loop-place-preserved
loop-place-preserved c =
    rising_more _ _ _ _ _ (omega arith) c.loop-place.invariant
    (c.time-time.ensures ∙ ap (λ o. time_of (starting o)) c.at-o.ensures) (omega (arith, c.if-first-time.false))

pub returns : goal.returns
returns c = λ _. let e : c.loop-place.place ≡ 0 = omega arith in in_turn _ _ (rw e at c.loop-place.invariant.sorted)
