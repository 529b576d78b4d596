use Rattle.std.specs.Prelude.{Ok}
use Rattle.std.proofs.lemmas.Result.{err_from_is_err_and}
use Rattle.history.proofs.Refusals.{ran_on, ran_met}
use Rattle.conditions.specs.Tests.{row_tests}
use Rattle.conditions.proofs.Chain.{ran_kind, ran_span, ran_again, ran_twin, ran_orphan, ran_early}
use Rattle.conditions.proofs.run_all.Goals as goal

pub returns-in_err-run : goal.returns-in_err-run
unfolding row_tests
returns-in_err-run c = let p = err_from_is_err_and c.from_residual.result c.from_residual.ensures.1 in rw (p.1, p.2) (ran_met _ _ (ran_kind _ _ _ c.requires.listed c.requires.writer_value _ c.in_err-run.ensures) _)

pub returns-in_err-run-2 : goal.returns-in_err-run-2
unfolding row_tests
returns-in_err-run-2 c = let p = err_from_is_err_and c.from_residual-in_err-run-2.result c.from_residual-in_err-run-2.ensures.1 in rw (p.1, p.2) (ran_on _ (ran_kind _ _ _ c.requires.listed c.requires.writer_value (Ok tt) c.in_ok-run.ensures) _ _ (ran_met _ _ (ran_span _ _ _ c.requires.listed c.requires.writer_value _ c.in_err-run-2.ensures) _))

pub returns-in_err-run-3 : goal.returns-in_err-run-3
unfolding row_tests
returns-in_err-run-3 c = let p = err_from_is_err_and c.from_residual-in_err-run-3.result c.from_residual-in_err-run-3.ensures.1 in rw (p.1, p.2) (ran_on _ (ran_kind _ _ _ c.requires.listed c.requires.writer_value (Ok tt) c.in_ok-run.ensures) _ _ (ran_on _ (ran_span _ _ _ c.requires.listed c.requires.writer_value (Ok tt) c.in_ok-run-2.ensures) _ _ (ran_met _ _ (ran_again _ _ _ c.requires.listed c.requires.writer_value _ c.in_err-run-3.ensures) _)))

pub returns-in_err-run-4 : goal.returns-in_err-run-4
unfolding row_tests
returns-in_err-run-4 c = let p = err_from_is_err_and c.from_residual-in_err-run-4.result c.from_residual-in_err-run-4.ensures.1 in rw (p.1, p.2) (ran_on _ (ran_kind _ _ _ c.requires.listed c.requires.writer_value (Ok tt) c.in_ok-run.ensures) _ _ (ran_on _ (ran_span _ _ _ c.requires.listed c.requires.writer_value (Ok tt) c.in_ok-run-2.ensures) _ _ (ran_on _ (ran_again _ _ _ c.requires.listed c.requires.writer_value (Ok tt) c.in_ok-run-3.ensures) _ _ (ran_met _ _ (ran_twin _ _ _ c.requires.listed c.requires.writer_value _ c.in_err-run-4.ensures) _))))

pub returns-in_err-run-5 : goal.returns-in_err-run-5
unfolding row_tests
returns-in_err-run-5 c = let p = err_from_is_err_and c.from_residual-in_err-run-5.result c.from_residual-in_err-run-5.ensures.1 in rw (p.1, p.2) (ran_on _ (ran_kind _ _ _ c.requires.listed c.requires.writer_value (Ok tt) c.in_ok-run.ensures) _ _ (ran_on _ (ran_span _ _ _ c.requires.listed c.requires.writer_value (Ok tt) c.in_ok-run-2.ensures) _ _ (ran_on _ (ran_again _ _ _ c.requires.listed c.requires.writer_value (Ok tt) c.in_ok-run-3.ensures) _ _ (ran_on _ (ran_twin _ _ _ c.requires.listed c.requires.writer_value (Ok tt) c.in_ok-run-4.ensures) _ _ (ran_met _ _ (ran_orphan _ _ _ c.requires.listed c.requires.writer_value _ c.in_err-run-5.ensures) _)))))

pub returns : goal.returns
unfolding row_tests
returns c = ran_on _ (ran_kind _ _ _ c.requires.listed c.requires.writer_value (Ok tt) c.in_ok-run.ensures) _ _ (ran_on _ (ran_span _ _ _ c.requires.listed c.requires.writer_value (Ok tt) c.in_ok-run-2.ensures) _ _ (ran_on _ (ran_again _ _ _ c.requires.listed c.requires.writer_value (Ok tt) c.in_ok-run-3.ensures) _ _ (ran_on _ (ran_twin _ _ _ c.requires.listed c.requires.writer_value (Ok tt) c.in_ok-run-4.ensures) _ _ (ran_on _ (ran_orphan _ _ _ c.requires.listed c.requires.writer_value (Ok tt) c.in_ok-run-5.ensures) _ _ (ran_early _ _ _ c.requires.listed c.requires.writer_value _ c.in_ok-run-4.ensures c.run-6.ensures)))))
