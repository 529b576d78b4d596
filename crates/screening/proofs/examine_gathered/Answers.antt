use Rattle.screening.proofs.Loops.{gathered_listed, gathered_answer, gathered_front}
use Rattle.screening.proofs.examine_gathered.Goals as goal

pub examine_listed-requires : goal.examine_listed-requires
examine_listed-requires c = gathered_listed _ _ _ _ c.requires.table_bound c.gather-n.ensures

pub returns : goal.returns
returns c = record { value = gathered_answer _ _ _ _ c.requires.table_bound c.gather-n.ensures _ c.examine_listed.ensures; gathered = gathered_front _ _ _ _ c.requires.table_bound c.gather-n.ensures }
