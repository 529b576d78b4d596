use mathlib.Core.Path.{sym, ◌∙◌}
use native.Mathlib.Omega.{arith}
use Rattle.choice.proofs.Offers.{chosen_first, chosen_second, chosen_none}
use Rattle.choice.proofs.first.Goals as goal

pub returns-then-chunk-gt2-clause-end : goal.returns-then-chunk-gt2-clause-end
returns-then-chunk-gt2-clause-end c = chosen_none _ _ _ _ c.args.chunk.now.forwards.now c.args.chunk.now.inner.now (omega arith)

pub returns-then-is_some-clause-end : goal.returns-then-is_some-clause-end
returns-then-is_some-clause-end c = chosen_first _ _ _ _ c.args.chunk.now.forwards.now c.args.chunk.now.inner.now (omega arith) c.attempts-found.ensures.end (sym c.is_some.ensures ∙ c.if-is_some.true)

pub returns-clause-end : goal.returns-clause-end
returns-clause-end c = chosen_second _ _ _ _ c.args.chunk.now.forwards.now c.args.chunk.now.inner.now (omega arith) c.attempts-found.ensures.end (sym c.is_some.ensures ∙ c.if-is_some.false) c.attempts.ensures.end
