use mathlib.Core.Path.{sym, ◌∙◌}
use native.Mathlib.Omega.{arith}
use Rattle.chunking.proofs.Keeping.{keep_none, keep_on, keep_out, keep_end}
use Rattle.chunking.proofs.keep.Goals.{then-passes, else-passes}
use Rattle.chunking.proofs.keep.Goals as goal

pub loop-w-init : goal.loop-w-init
loop-w-init g c = (omega arith, λ test h. keep_none _ _ _)

pub loop-w-preserved : goal.loop-w-preserved
loop-w-preserved g c =
    elim c.if-passes.branch [
      | then-passes w ↦ (
        omega (arith, w.m-is, c.loop-w.invariant.0),
        λ test h. rw (w.m-is, w.out-is) (keep_on test _ _ _ _ _ (c.loop-w.invariant.1 test h) (omega arith) (sym (h _ _ (omega arith) c.passes.ensures) ∙ w.if-passes.true) (omega (arith, c.loop-w.invariant.0, c.requires.room))),
      )
      | else-passes w ↦ (
        omega (arith, w.m-is, c.loop-w.invariant.0),
        λ test h. rw (w.m-is, w.out-is) (keep_out test _ _ _ _ _ (c.loop-w.invariant.1 test h) (omega arith) (sym (h _ _ (omega arith) c.passes.ensures) ∙ w.if-passes.false)),
      )
    ]

pub returns-clause-written : goal.returns-clause-written
returns-clause-written g c = λ test h. (keep_end test _ _ _ _ _ (c.loop-w.invariant.1 test h) (omega arith)).1
