use mathlib.Core.Path.{refl, ap}
use Rattle.placing.specs.States.{plus_one}
use Rattle.lbt.proofs.Running.{run_none, run_marked, run_fails, run_ends, run_on}
use Rattle.lbt.proofs.epoch.Goals as goal

pub steps-init : goal.steps-init
steps-init c = run_none c.args.columns.now.sound c.requires.holds c.requires.whose

pub clear-requires : goal.clear-requires
clear-requires c = run_marked c.steps.invariant _ c.in-Err.ensures _ refl

pub returns-in-Err : goal.returns-in-Err
returns-in-Err c = run_fails c.steps.invariant _ c.in-Err.ensures refl _ refl _ c.clear.ensures

pub returns-in-None : goal.returns-in-None
returns-in-None c = run_ends c.steps.invariant _ c.in-Ok.ensures refl (ap plus_one c.in-None.is)

pub steps-preserved : goal.steps-preserved
steps-preserved c = (run_on c.steps.invariant _ c.in-Ok.ensures refl _ (ap plus_one c.in-Some.is)).1
