-- The table has the register's rows alone at its front, and their code is that of the whole file's table (`compact_code`).
use Rattle.selection.proofs.Selecting.{placed_stand}
use Rattle.selection.proofs.Loaded.{loaded_front}
use Rattle.host.proofs.Entry.{entry_marked}
use Rattle.host.proofs.code_sized.Goals as goal

pub copy-requires-clause-stands : goal.copy-requires-clause-stands
copy-requires-clause-stands g c = placed_stand _ _ _ c.requires.placed

pub returns : goal.returns
returns g c = entry_marked _ _ _ c.requires.placed.whole _ (loaded_front _ _ _ c.requires.placed _ _ c.copy.ensures) _ c.answer-mark.ensures.answer
