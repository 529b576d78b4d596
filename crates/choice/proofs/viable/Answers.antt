use mathlib.Core.Path.{refl, sym, ◌∙◌}
use native.Mathlib.Omega.{arith}
use Rattle.placing.proofs.Adding.{added_shrinks}
use Rattle.choice.proofs.Sequence.{place_none, place_end, place_shrinks, place_fails, place_clash, place_on}
use Rattle.choice.proofs.viable.Goals as goal

pub loop-i-init : goal.loop-i-init
loop-i-init c = place_none _ c.args.columns.now.sound _ _ c.requires.holds c.requires.turns

pub returns-in_default : goal.returns-in_default
returns-in_default c = record { end = place_fails _ c.args.columns.now.sound _ _ _ _ (omega arith) c.loop-i.invariant _ c.in_default.ensures refl _; marks = place_shrinks _ c.args.columns.now.sound _ _ _ _ (omega arith) c.loop-i.invariant _ c.in_default.ensures }

pub returns-then-not-follows : goal.returns-then-not-follows
returns-then-not-follows c = record { end = place_clash _ c.args.columns.now.sound _ _ _ _ (omega arith) c.loop-i.invariant _ c.in-Ok.ensures refl (sym c.follows.ensures ∙ c.if-not-follows.true) _; marks = place_shrinks _ c.args.columns.now.sound _ _ _ _ (omega arith) c.loop-i.invariant _ c.in-Ok.ensures }

pub loop-i-preserved : goal.loop-i-preserved
loop-i-preserved c = place_on _ c.args.columns.now.sound _ _ _ _ (omega arith) c.loop-i.invariant c.requires.turns _ c.in-Ok.ensures refl (sym c.follows.ensures ∙ c.if-not-follows.false)

pub returns : goal.returns
returns c = record { end = place_end _ c.args.columns.now.sound _ _ _ _ c.loop-i.invariant (omega arith); marks = added_shrinks c.loop-i.invariant.added _ }
