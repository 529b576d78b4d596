-- The register is refused, or its zone list is printed.
use mathlib.Core.Path.{sym, ap, ◌∙◌}
use native.Mathlib.Omega.{arith}
use Rattle.history.specs.declared.Answer.{Answer}
use Rattle.history.proofs.Rows.{rows_few}
use Rattle.screening.proofs.Fronts.{counted, front_in, front_long, front_rows}
use Rattle.printing.specs.Texts.{refused_line}
use Rattle.printing.proofs.Writing.{text_printed}
use Rattle.zone_list.proofs.Calling.{is_screening, met_screened}
use Rattle.zone_report.proofs.Lines.{text_is, text_refused}
use Rattle.zone_report.proofs.text.Goals as goal

pub returns-then-met-ne0 : goal.returns-then-met-ne0
returns-then-met-ne0 c = text_printed _ _ _ _ _ (ap refused_line (is_screening _ _ _ c.examine_into-met.ensures.value) ∙ text_refused _ _ (λ z. c.if-met-ne0.true (ap (λ (x : Answer). x.code) (is_screening _ _ _ c.examine_into-met.ensures.value) ∙ z))) c.refusal.ensures

pub slice_bounds-rows-end : goal.slice_bounds-rows-end
slice_bounds-rows-end c = front_in _ _ _ (c.examine_into-met.ensures.gathered c.if-met-ne0.false) _ (counted _ _ _ _ c.examine_into-met.ensures.value c.if-met-ne0.false)

pub slice_bounds-list_gathered-end : goal.slice_bounds-list_gathered-end
slice_bounds-list_gathered-end c = front_long _ _ _ (c.examine_into-met.ensures.gathered c.if-met-ne0.false) _ (counted _ _ _ _ c.examine_into-met.ensures.value c.if-met-ne0.false)

pub list_gathered-m-requires : goal.list_gathered-m-requires
list_gathered-m-requires c = record { screened = met_screened _ _ _ c.examine_into-met.ensures.value c.if-met-ne0.false; rows_value = front_rows _ _ _ (c.examine_into-met.ensures.gathered c.if-met-ne0.false) _ (counted _ _ _ _ c.examine_into-met.ensures.value c.if-met-ne0.false) }

pub headed-requires : goal.headed-requires
headed-requires c =
    let r = rows_few c.args.table.now c.args.register in
    let s = met_screened c.args.table.now c.args.register _ c.examine_into-met.ensures.value c.if-met-ne0.false in
    record { header_len_bound = omega arith; w_in_bounds = omega (arith, c.list_gathered-m.ensures.few, r, s.few, c.list_gathered-m.auto.list); w_bound = omega arith; k_le_largest_count = omega (arith, c.list_gathered-m.ensures.few, r, s.few) }

pub returns : goal.returns
returns c =
    let e = is_screening _ _ _ c.examine_into-met.ensures.value in
    let s = met_screened c.args.table.now c.args.register _ c.examine_into-met.ensures.value c.if-met-ne0.false in
    text_printed _ _ _ _ _ (text_is _ _ (sym (ap (λ (x : Answer). x.code) e) ∙ c.if-met-ne0.false) _ _ _ c.list_gathered-m.ensures (omega (arith, c.list_gathered-m.ensures.few, rows_few c.args.table.now c.args.register, s.few))) c.headed.ensures
