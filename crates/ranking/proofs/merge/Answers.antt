use mathlib.Core.Path.{◌∙◌, sym}
use native.Mathlib.Omega.{arith}
use Rattle.ranking.proofs.Merging.{first_start, merge_none, merge_start, merge_finish, merge_end}
use Rattle.ranking.proofs.merge.Goals as goal

pub loop-j-init : goal.loop-j-init
loop-j-init c = merge_none _ _ _ c.requires.ready

pub bounds-start-i : goal.bounds-start-i
bounds-start-i c =
    let e = sym c.comes_first.ensures ∙ c.if-comes_first.true in
    omega (arith, (first_start _ _ _ c.requires.ready _ _ _ _ c.loop-j.invariant (omega arith) e).0, c.loop-j.invariant.size_start, c.loop-j.invariant.few_finishes, c.requires.list_len_bound)

pub loop-j-preserved-then-comes_first : goal.loop-j-preserved-then-comes_first
loop-j-preserved-then-comes_first c =
    let e = sym c.comes_first.ensures ∙ c.if-comes_first.true in
    merge_start _ _ _ c.requires.ready _ _ _ _ c.loop-j.invariant (omega arith) e _ (omega (arith, c.doubled.ensures))

pub loop-j-preserved : goal.loop-j-preserved
loop-j-preserved c =
    let e = sym c.comes_first.ensures ∙ c.if-comes_first.false in
    merge_finish _ _ _ c.requires.ready _ _ _ _ c.loop-j.invariant (omega arith) e _ (omega (arith, c.doubled-else-comes_first.ensures))

pub returns : goal.returns
returns c = merge_end _ _ _ c.requires.ready _ _ _ _ c.loop-j.invariant (omega arith)
