-- A law of `Answering` for each case.
use Rattle.searches.proofs.Answering.{judged_stale, judged_spent, judged_fresh}
use Rattle.searches.proofs.answer.Goals as goal

pub returns-in-Stale : goal.returns-in-Stale
returns-in-Stale c = λ C H m o q k. judged_stale o _ _ _ _ (rw c.in-Stale.is at k)

pub returns-in-Spent : goal.returns-in-Spent
returns-in-Spent c = λ C H m o q k. judged_spent o _ _ _ (rw c.in-Spent.is at k)

pub returns-in-Fresh : goal.returns-in-Fresh
returns-in-Fresh c = λ C H m o q k. judged_fresh o _ _ _ _ _ _ (rw c.in-Fresh.is at k) _ _ q c.rows_at.ensures
