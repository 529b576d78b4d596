use mathlib.Core.Path.{refl}
use native.Mathlib.Omega.{arith}
use Rattle.lists.proofs.Entries.{entered_none, entered_more, entered_end}
use Rattle.summary.proofs.Entries.{entry_long}
use Rattle.summary.proofs.put_entries.Goals as goal

pub loop-i-init : goal.loop-i-init
loop-i-init c = entered_none _ _ _

pub loop-i-preserved : goal.loop-i-preserved
loop-i-preserved c = entered_more _ _ _ 5 (entry_long _) _ _ _ _ (omega arith) refl c.put_entry.ensures c.loop-i.invariant

pub returns : goal.returns
returns c = entered_end _ _ _ 5 (entry_long _) _ _ (omega arith) c.requires c.loop-i.invariant
