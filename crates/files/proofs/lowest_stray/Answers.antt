use mathlib.Core.Path.{sym, ap, ◌∙◌, refl}
use native.Mathlib.Omega.{arith}
use Rattle.lists.specs.Lists.{first}
use Rattle.lists.proofs.Scans.{scan_none, scan_hit, scan_more, scan_end}
use Rattle.history.specs.Screen.{stray_opening}
use Rattle.files.specs.Files.{ops_of}
use Rattle.files.proofs.Passing.{row_hit, row_miss}
use Rattle.files.proofs.lowest_stray.Goals as goal

pub loop-i-init : goal.loop-i-init
unfolding ops_of
loop-i-init c = scan_none _ _ refl

pub returns-then-strays : goal.returns-then-strays
returns-then-strays c = sym (scan_hit _ _ _ _ (omega arith) c.loop-i.invariant (λ r. row_hit stray_opening c.args.table.now c.loop-i.i r (ap stray_opening (sym c.at.ensures) ∙ sym c.strays.ensures ∙ c.if-strays.true)))

pub loop-i-preserved : goal.loop-i-preserved
loop-i-preserved c = scan_more _ _ _ _ (omega arith) c.loop-i.invariant (λ r. row_miss stray_opening c.args.table.now c.loop-i.i r (ap stray_opening (sym c.at.ensures) ∙ sym c.strays.ensures ∙ c.if-strays.false))

pub returns : goal.returns
unfolding first
returns c = sym (scan_end _ _ _ (omega arith) c.loop-i.invariant)
