-- The field is the record's register.
use mathlib.Core.Path.{refl}
use Rattle.records.specs.Records.{record_from}
use Rattle.selection.proofs.bears.Goals as goal

pub returns : goal.returns
unfolding record_from
returns c = rw c.eight.ensures refl
