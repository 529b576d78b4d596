use Rattle.roads.proofs.Answering.{put_is}
use Rattle.roads.proofs.put.Goals as goal

pub returns : goal.returns
returns c = put_is _ _ _ c.requires _ c.write.ensures.1
