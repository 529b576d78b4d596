-- The two calls store the two stamps, one behind the other (`stamp_stores`).
use Rattle.records.proofs.Storing.{stamp_stores}
use Rattle.records.proofs.put_stamps.Goals as goal

pub returns : goal.returns
returns c = rw (c.put-2.ensures, c.put.ensures) (stamp_stores c.args.bytes.now c.args.at c.args.start c.args.finish)
