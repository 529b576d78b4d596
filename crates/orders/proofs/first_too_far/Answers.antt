use mathlib.Core.Path.{refl, sym, ◌∙◌}
use native.Mathlib.Omega.{arith}
use Rattle.lists.specs.Lists.{first}
use Rattle.lists.proofs.Scans.{scan_none, scan_hit, scan_more, scan_end}
use Rattle.lists.proofs.Members.{first_cons_hit, first_cons_miss}
use Rattle.orders.proofs.first_too_far.Goals as goal

pub loop-p-init : goal.loop-p-init
loop-p-init c = scan_none _ _ refl

pub too_far-requires : goal.too_far-requires
too_far-requires c = record { ordered = c.requires.ordered; writer_value = c.requires.writer_value; counted = c.requires.counted; p_in_bounds = omega arith }

pub returns-then-too_far : goal.returns-then-too_far
returns-then-too_far c = sym (scan_hit _ _ _ _ (omega arith) c.loop-p.invariant (λ r. first_cons_hit _ _ r _ (sym c.too_far.ensures ∙ c.if-too_far.true)))

pub loop-p-preserved : goal.loop-p-preserved
loop-p-preserved c = scan_more _ _ _ _ (omega arith) c.loop-p.invariant (λ r. first_cons_miss _ _ r _ (sym c.too_far.ensures ∙ c.if-too_far.false))

pub returns : goal.returns
unfolding first
returns c = sym (scan_end _ _ _ (omega arith) c.loop-p.invariant)
