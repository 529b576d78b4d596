-- The four calls store the four fields, one behind the other (`head_stores`).
use Rattle.records.proofs.Storing.{head_stores}
use Rattle.records.proofs.put_head.Goals as goal

pub returns : goal.returns
returns c = rw (c.put-4.ensures, c.put-3.ensures, c.put-2.ensures, c.put.ensures, c.body_length.ensures) (head_stores c.args.bytes.now c.args.at c.args.kind c.args.register c.args.value)
