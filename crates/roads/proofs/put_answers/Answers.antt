use mathlib.Core.Path.{refl}
use native.Mathlib.Omega.{arith}
use Rattle.lists.proofs.Entries.{entered_none, entered_more, entered_end}
use Rattle.roads.specs.Answers.{answers_of}
use Rattle.roads.proofs.Answering.{fields_long, fields_stored}
use Rattle.roads.proofs.put_answers.Goals as goal

pub loop-i-init : goal.loop-i-init
loop-i-init c = entered_none _ _ _

pub loop-i-preserved : goal.loop-i-preserved
loop-i-preserved c =
    entered_more _ _ _ 4 (fields_long _ _ _) _ _ _ _ (omega arith) refl (fields_stored _ _ _ _ _ _ _ _ c.answer_in-one.ensures c.put.ensures)
    c.loop-i.invariant

pub returns : goal.returns
unfolding answers_of
returns c = entered_end _ _ _ 4 (fields_long _ _ _) _ _ (omega arith) c.requires c.loop-i.invariant
