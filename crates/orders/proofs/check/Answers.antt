-- The answer is the defined one, by the run of the tests; the other two clauses follow from that (`promises`).
use mathlib.Core.Path.{sym, ap, ◌∙◌}
use Rattle.std.specs.Prelude.{Ok, Err}
use Rattle.orders.proofs.Chain.{check_refused, check_past, screened_past, promises}
use Rattle.orders.proofs.check.Goals as goal

pub returns-then-examined-ne0 : goal.returns-then-examined-ne0
returns-then-examined-ne0 c =
    let whole = promises c.args.table.now c.args.register c.args.k c.args.list.now c.examine-examined.result (c.examine-examined.ensures ∙ check_refused c.args.table.now c.args.register c.args.k c.args.list.now (λ z. c.if-examined-ne0.true (ap (λ x. x.code) c.examine-examined.ensures ∙ z))) in record { answer = whole.0; exact = whole.1.0; alike = whole.1.1 }

pub run_all-requires : goal.run_all-requires
run_all-requires c = screened_past c.args.table.now c.args.register c.args.k c.args.list.now c.examine-examined.result c.examine-examined.ensures c.if-examined-ne0.false

pub returns-in-Ok : goal.returns-in-Ok
returns-in-Ok c =
    let z = sym (ap (λ x. x.code) c.examine-examined.ensures) ∙ c.if-examined-ne0.false in
    let whole = promises c.args.table.now c.args.register c.args.k c.args.list.now c.examine-examined.result (c.examine-examined.ensures ∙ check_past c.args.table.now c.args.register c.args.k c.args.list.now z (Ok tt) c.in-Ok.ensures) in record { answer = whole.0; exact = whole.1.0; alike = whole.1.1 }

pub returns-in-Err : goal.returns-in-Err
returns-in-Err c =
    let z = sym (ap (λ x. x.code) c.examine-examined.ensures) ∙ c.if-examined-ne0.false in
    let whole = promises c.args.table.now c.args.register c.args.k c.args.list.now c.in-Err.refusal (check_past c.args.table.now c.args.register c.args.k c.args.list.now z (Err c.in-Err.refusal) c.in-Err.ensures) in record { answer = whole.0; exact = whole.1.0; alike = whole.1.1 }
