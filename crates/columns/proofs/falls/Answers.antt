-- What is gathered, sorted by the keys, is the writes by falling finish.
use native.Mathlib.Omega.{arith}
use Rattle.columns.proofs.Sorted.{falls_sorted}
use Rattle.columns.proofs.falls.Goals as goal

pub returns : goal.returns
returns c = falls_sorted _ _ (omega arith) c.choose-m.ensures _ c.sort_by.ensures
