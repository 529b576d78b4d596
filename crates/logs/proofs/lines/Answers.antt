use native.Mathlib.Omega.{arith}
use Rattle.logs.proofs.Loading.{load_none, load_end, load_hit, load_few, load_more, load_above, load_within}
use Rattle.logs.proofs.lines.Goals as goal

pub loop-at-init : goal.loop-at-init
loop-at-init c = load_none _ _ _ _ _

pub returns-then-answer-ne0 : goal.returns-then-answer-ne0
returns-then-answer-ne0 c =
    load_hit _ _ _ _ _ _ _ _
    c.loop-at.invariant
    (omega arith) _ c.walk-line.ensures _
    c.judge-answer.ensures
    c.requires
    c.if-answer-ne0.true

pub put_row-requires : goal.put_row-requires
put_row-requires c =
    omega
    (arith, load_few _ _ _ _ _ _ _ _ c.loop-at.invariant (omega arith) _ c.walk-line.ensures _ c.judge-answer.ensures c.if-answer-ne0.false, c.loop-at.invariant.put.long, c.requires)

pub overflow_add-at : goal.overflow_add-at
overflow_add-at c =
    omega
    (arith, load_within _ _ _ _ _ _ _ _ c.loop-at.invariant (omega arith) _ c.walk-line.ensures _ c.judge-answer.ensures)

pub loop-at-smaller : goal.loop-at-smaller
loop-at-smaller c =
    omega
    (arith, load_above _ _ _ _ _ _ _ _ c.loop-at.invariant (omega arith) _ c.walk-line.ensures _ c.judge-answer.ensures)

pub loop-at-preserved : goal.loop-at-preserved
loop-at-preserved c =
    load_more _ _ _ _ _ _ _ _
    c.loop-at.invariant
    (omega arith) _
    c.walk-line.ensures _
    c.judge-answer.ensures
    c.if-answer-ne0.false _
    c.put_row.ensures

pub returns : goal.returns
returns c = load_end _ _ _ _ _ _ _ _ c.loop-at.invariant c.requires (omega arith) _ c.passed.ensures
