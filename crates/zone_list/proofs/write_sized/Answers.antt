-- The screening refuses, or the list is too short for the zone list, or has it.
use native.Mathlib.Omega.{arith}
use Rattle.screening.proofs.Fronts.{counted, front_in, front_rows}
use Rattle.zone_list.proofs.Calling.{met_screened, promised_refused, promised_short, promised_done}
use Rattle.zone_list.proofs.write_sized.Goals as goal

pub returns-then-met-ne0-clause-outcome : goal.returns-then-met-ne0-clause-outcome
returns-then-met-ne0-clause-outcome g c = (promised_refused _ _ _ _ c.examine_into-met.ensures.value c.if-met-ne0.true).0

pub returns-then-met-ne0-clause-alike : goal.returns-then-met-ne0-clause-alike
returns-then-met-ne0-clause-alike g c = (promised_refused _ _ _ _ c.examine_into-met.ensures.value c.if-met-ne0.true).1.1

pub whole_as_front-list_gathered : goal.whole_as_front-list_gathered
whole_as_front-list_gathered g c =
    let k = front_in _ _ _ (c.examine_into-met.ensures.gathered c.if-met-ne0.false) _ (counted _ _ _ _ c.examine_into-met.ensures.value c.if-met-ne0.false) in
    (omega arith, omega arith)

pub list_gathered-m-requires-clause-screened : goal.list_gathered-m-requires-clause-screened
list_gathered-m-requires-clause-screened g c = met_screened _ _ _ c.examine_into-met.ensures.value c.if-met-ne0.false

pub list_gathered-m-requires-clause-rows_value : goal.list_gathered-m-requires-clause-rows_value
list_gathered-m-requires-clause-rows_value g c = front_rows _ _ _ (c.examine_into-met.ensures.gathered c.if-met-ne0.false) _ (counted _ _ _ _ c.examine_into-met.ensures.value c.if-met-ne0.false)

pub returns-then-list-m-clause-outcome : goal.returns-then-list-m-clause-outcome
returns-then-list-m-clause-outcome g c = (promised_short _ _ _ _ c.examine_into-met.ensures.value c.if-met-ne0.false _ _ c.list_gathered-m.ensures (omega arith) _ c.at.ensures).0

pub returns-then-list-m-clause-alike : goal.returns-then-list-m-clause-alike
returns-then-list-m-clause-alike g c = (promised_short _ _ _ _ c.examine_into-met.ensures.value c.if-met-ne0.false _ _ c.list_gathered-m.ensures (omega arith) _ c.at.ensures).1.1

pub returns : goal.returns
returns g c =
    let whole = promised_done _ _ _ _ c.examine_into-met.ensures.value c.if-met-ne0.false _ _ c.list_gathered-m.ensures (omega arith) in record { outcome = whole.0; shown = whole.1.0; alike = whole.1.1 }
