use mathlib.Core.Path.{refl}
use Rattle.std.proofs.lemmas.Result.{err_from_is_err_and}
use Rattle.placing.proofs.Stepping.{step_fails, after_ready, after_whose, step_goes}
use Rattle.placing.proofs.step.Goals as goal

pub returns-in_err-seen : goal.returns-in_err-seen
returns-in_err-seen c = let p = err_from_is_err_and c.from_residual.result c.from_residual.ensures.1 in rw (p.1, p.2) (step_fails _ c.args.columns.now.sound _ _ c.requires.holds c.requires.whose _ c.in_err-seen.ensures refl)

pub own-at-requires-clause-ready : goal.own-at-requires-clause-ready
own-at-requires-clause-ready c = after_ready _ c.args.columns.now.sound _ _ c.requires.holds c.requires.whose _ c.in_ok-seen.ensures refl

pub own-at-requires-clause-whose : goal.own-at-requires-clause-whose
own-at-requires-clause-whose c = after_whose _ c.args.columns.now.sound _ _ c.requires.holds c.requires.whose _ c.in_ok-seen.ensures refl

pub returns : goal.returns
returns c = step_goes _ c.args.columns.now.sound _ _ c.requires.holds c.requires.whose _ c.in_ok-seen.ensures refl _ (c.own-at.ensures _)
