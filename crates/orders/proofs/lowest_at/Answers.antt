-- Each fault has a search of its own.
use Rattle.orders.specs.Faults.{condition}
use Rattle.orders.proofs.lowest_at.Goals as goal

pub lowest_too_far-requires : goal.lowest_too_far-requires
lowest_too_far-requires c = rw c.in-TooFar.is at c.requires.before

pub returns-in-Misfit : goal.returns-in-Misfit
unfolding condition
returns-in-Misfit c = rw c.in-Misfit.is c.lowest_misfit.ensures

pub returns-in-Late : goal.returns-in-Late
unfolding condition
returns-in-Late c = rw c.in-Late.is c.lowest_late.ensures

pub returns-in-TooFar : goal.returns-in-TooFar
unfolding condition
returns-in-TooFar c = rw c.in-TooFar.is c.lowest_too_far.ensures
