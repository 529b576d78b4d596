use native.Mathlib.Omega.{arith}
use borrow.Author.Tests.{eqb-true, eqb-false}
use lib.ListN.{length}
use mathlib.Core.Path.{sym, ◌∙◌}
use Rattle.grouping.proofs.Runs.{kept_none, kept_first, kept_again, kept_more, kept_end}
use Rattle.grouping.proofs.distinct.Goals as goal
use Rattle.grouping.proofs.distinct.Goals.{then-next-last, else-next-last}

pub returns-then-is_empty : goal.returns-then-is_empty
returns-then-is_empty c = kept_none _ (omega (arith, eqb-true (length c.args.list.now) 0 (sym c.is_empty.ensures ∙ c.if-is_empty.true)))

pub loop-i-init : goal.loop-i-init
loop-i-init c = kept_first _ (omega (arith, eqb-false (length c.args.list.now) 0 (sym c.is_empty.ensures ∙ c.if-is_empty.false)))

pub loop-i-preserved : goal.loop-i-preserved
loop-i-preserved c =
    elim c.if-next-last.branch [
      | then-next-last w ↦
          rw (w.list-is, w.last-is, w.m-is) (kept_more _ _ _ _ _ c.loop-i.invariant (omega arith) w.if-next-last.true)
      | else-next-last w ↦
          rw (w.list-is, w.last-is, w.m-is) (kept_again _ _ _ _ _ c.loop-i.invariant (omega arith) (omega (arith, w.if-next-last.false)))
    ]

pub returns : goal.returns
returns c = kept_end _ _ _ _ _ (omega arith) c.loop-i.invariant
