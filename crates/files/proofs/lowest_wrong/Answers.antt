use mathlib.Core.Path.{sym, ◌∙◌, refl}
use native.Mathlib.Omega.{arith}
use Rattle.lists.specs.Lists.{first}
use Rattle.lists.proofs.Scans.{scan_none, scan_hit, scan_more, scan_end}
use Rattle.history.specs.Screen.{wrong_kind}
use Rattle.files.specs.Files.{ops_of}
use Rattle.files.proofs.Passing.{row_hit, row_miss, row_kind}
use Rattle.files.proofs.lowest_wrong.Goals as goal

pub loop-i-init : goal.loop-i-init
unfolding ops_of
loop-i-init c = scan_none _ _ refl

pub returns-then-wrong_kind : goal.returns-then-wrong_kind
returns-then-wrong_kind c = sym (scan_hit _ _ _ _ (omega arith) c.loop-i.invariant (λ r. row_hit wrong_kind c.args.table.now c.loop-i.i r (sym (row_kind c.args.table.now c.loop-i.i) ∙ sym c.wrong_kind.ensures ∙ c.if-wrong_kind.true)))

pub loop-i-preserved : goal.loop-i-preserved
loop-i-preserved c = scan_more _ _ _ _ (omega arith) c.loop-i.invariant (λ r. row_miss wrong_kind c.args.table.now c.loop-i.i r (sym (row_kind c.args.table.now c.loop-i.i) ∙ sym c.wrong_kind.ensures ∙ c.if-wrong_kind.false))

pub returns : goal.returns
unfolding first
returns c = sym (scan_end _ _ _ (omega arith) c.loop-i.invariant)
