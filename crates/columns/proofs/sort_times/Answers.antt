use Rattle.columns.proofs.Keying.{keyed_sorts}
use Rattle.columns.proofs.sort_times.Goals as goal

pub returns : goal.returns
returns c = keyed_sorts _ _ _ _ c.times_of.ensures c.sort_by.ensures
