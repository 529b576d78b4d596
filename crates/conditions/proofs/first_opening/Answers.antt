use mathlib.Core.Path.{◌≡◌, ap, sym, ◌∙◌}
use native.Mathlib.Omega.{arith}
use lib.ListN.{length}
use Rattle.lists.proofs.Images.{get_d_in}
use Rattle.history.specs.Table.{is_opening}
use Rattle.conditions.specs.Tests.{first_opening}
use Rattle.conditions.proofs.Openings.{sought_none, sought_hit, sought_more, sought_end}
use Rattle.conditions.proofs.first_opening.Goals as goal

pub loop-i-init : goal.loop-i-init
loop-i-init c = sought_none _ _

pub at-requires : goal.at-requires
at-requires c = c.requires _ (get_d_in c.args.rows.now 0 c.loop-i.i (omega arith))

pub returns-then-is_opening : goal.returns-then-is_opening
unfolding first_opening
returns-then-is_opening c = sought_hit _ _ _ (omega arith) c.loop-i.invariant (ap is_opening (sym c.at.ensures) ∙ sym c.is_opening.ensures ∙ c.if-is_opening.true)

pub loop-i-preserved : goal.loop-i-preserved
loop-i-preserved c = sought_more _ _ _ (omega arith) c.loop-i.invariant (ap is_opening (sym c.at.ensures) ∙ sym c.is_opening.ensures ∙ c.if-is_opening.false)

pub returns : goal.returns
unfolding first_opening
returns c = let e : length c.args.rows.now ≡ c.loop-i.i = omega arith in e ∙ sought_end _ _ _ (omega arith) c.loop-i.invariant
