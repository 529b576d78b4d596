use mathlib.Core.Path.{sym, refl, ◌∙◌}
use native.Mathlib.Omega.{arith}
use Rattle.lists.specs.Lists.{first}
use Rattle.lists.proofs.Members.{first_cons_hit, first_cons_miss}
use Rattle.lists.proofs.Scans.{scan_none, scan_hit, scan_more, scan_end}
use Rattle.conditions.proofs.lowest.Goals as goal

pub loop-i-init : goal.loop-i-init
loop-i-init c = scan_none _ _ refl

pub returns-then-meets : goal.returns-then-meets
returns-then-meets c = sym (scan_hit _ _ _ _ (omega arith) c.loop-i.invariant (λ r. first_cons_hit _ _ r _ (sym c.meets.ensures ∙ c.if-meets.true)))

pub loop-i-preserved : goal.loop-i-preserved
loop-i-preserved c = scan_more _ _ _ _ (omega arith) c.loop-i.invariant (λ r. first_cons_miss _ _ r _ (sym c.meets.ensures ∙ c.if-meets.false))

pub returns : goal.returns
unfolding first
returns c = sym (scan_end _ _ _ (omega arith) c.loop-i.invariant)
