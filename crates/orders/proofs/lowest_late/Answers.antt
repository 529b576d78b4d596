use mathlib.Core.Path.{refl, sym, ◌∙◌}
use native.Mathlib.Omega.{arith}
use Rattle.lists.specs.Lists.{first}
use Rattle.lists.proofs.Scans.{scan_none, scan_hit, scan_more, scan_end}
use Rattle.lists.proofs.Members.{first_cons_hit, first_cons_miss}
use Rattle.orders.proofs.Latest.{latest_none, latest_more, latest_late}
use Rattle.orders.proofs.lowest_late.Goals as goal

pub loop-p-init : goal.loop-p-init
loop-p-init c = (scan_none _ _ refl, latest_none _ _)

pub returns-then-precedes_any : goal.returns-then-precedes_any
returns-then-precedes_any c = sym (scan_hit _ _ _ _ (omega arith) c.loop-p.invariant.0 (λ r. first_cons_hit _ _ r _ (sym (latest_late c.args.table.now c.args.list.now c.loop-p.p c.loop-p.latest c.loop-p.others _ _ c.operation-o.ensures c.precedes_any.ensures c.loop-p.invariant.1) ∙ c.if-precedes_any.true)))

pub loop-p-preserved : goal.loop-p-preserved
loop-p-preserved c = (scan_more _ _ _ _ (omega arith) c.loop-p.invariant.0 (λ r. first_cons_miss _ _ r _ (sym (latest_late c.args.table.now c.args.list.now c.loop-p.p c.loop-p.latest c.loop-p.others _ _ c.operation-o.ensures c.precedes_any.ensures c.loop-p.invariant.1) ∙ c.if-precedes_any.false)), latest_more c.args.table.now c.args.list.now c.loop-p.p c.loop-p.latest _ c.loop-p.others _ _ c.operation-o.ensures c.max-latest.ensures c.or_other-others.ensures c.loop-p.invariant.1)

pub returns : goal.returns
unfolding first
returns c = sym (scan_end _ _ _ (omega arith) c.loop-p.invariant.0)
