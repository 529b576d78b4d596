use Rattle.std.proofs.lemmas.Result.{err_from_is_err_and}
use Rattle.history.proofs.Refusals.{ran_on, ran_met}
use Rattle.atomicity.specs.Check.{order_tests}
use Rattle.orders.specs.Faults.{condition}
use Rattle.orders.proofs.Chain.{ordered_past}
use Rattle.orders.proofs.run_all.Goals as goal

pub run-requires : goal.run-requires
run-requires c = record { screened = c.requires; before = tt }

pub returns-in_err-run : goal.returns-in_err-run
unfolding order_tests condition
returns-in_err-run c = let p = err_from_is_err_and c.from_residual.result c.from_residual.ensures.1 in rw (p.1, p.2) (ran_met _ _ c.in_err-run.ensures _)

pub returns-in_err-run_missing : goal.returns-in_err-run_missing
unfolding order_tests condition
returns-in_err-run_missing c =
    let p = err_from_is_err_and c.from_residual-in_err-run_missing.result c.from_residual-in_err-run_missing.ensures.1 in
    rw (p.1, p.2) (ran_on _ c.in_ok-run.ensures _ _ (ran_met _ _ c.in_err-run_missing.ensures _))

pub returns-in_err-run-2 : goal.returns-in_err-run-2
unfolding order_tests condition
returns-in_err-run-2 c =
    let p = err_from_is_err_and c.from_residual-in_err-run-2.result c.from_residual-in_err-run-2.ensures.1 in
    rw (p.1, p.2) (ran_on _ c.in_ok-run.ensures _ _ (ran_on _ c.in_ok-run_missing.ensures _ _ (ran_met _ _ c.in_err-run-2.ensures _)))

pub run-requires-3 : goal.run-requires-3
run-requires-3 c = record { screened = c.requires; before = ordered_past _ _ c.args.k _ c.requires c.in_ok-run.ensures c.in_ok-run_missing.ensures }

pub returns : goal.returns
unfolding order_tests condition
returns c = ran_on _ c.in_ok-run.ensures _ _ (ran_on _ c.in_ok-run_missing.ensures _ _ (ran_on _ c.in_ok-run-2.ensures _ _ c.run-3.ensures))
