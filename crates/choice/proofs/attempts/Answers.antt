use mathlib.Core.Path.{sym, ◌∙◌}
use mathlib.Core.Logic.{inl, inr}
use native.Mathlib.Omega.{arith}
use borrow.Author.Tests.{eqb-true, eqb-false}
use Rattle.choice.proofs.Offers.{try_first, try_second}
use Rattle.choice.proofs.attempts.Goals.{then-is_some-via-then-is_some, then-is_some-via-else-is_some+then-is_empty}
use Rattle.choice.proofs.attempts.Goals as goal

pub returns-then-is_some-clause-end : goal.returns-then-is_some-clause-end
returns-then-is_some-clause-end c =
    try_first _ _ _ _ c.args.chunk.now.forwards.now c.args.chunk.now.inner.now c.args.swap c.attempt-found.ensures.end
    (elim c.then-is_some.branch [
      | then-is_some-via-then-is_some w ↦ inl (sym c.is_some.ensures ∙ w.if-is_some.true)
      | then-is_some-via-else-is_some+then-is_empty w ↦ inr (eqb-true _ 0 (sym w.is_empty.ensures ∙ w.if-is_empty.true))
    ])

pub returns-clause-end : goal.returns-clause-end
returns-clause-end c =
    try_second _ _ _ _ c.args.chunk.now.forwards.now c.args.chunk.now.inner.now c.args.swap c.attempt-found.ensures.end
    (sym c.is_some.ensures ∙ c.if-is_some.false) (omega (arith, eqb-false _ 0 (sym c.is_empty.ensures ∙ c.if-is_empty.false))) c.attempt.ensures.end
