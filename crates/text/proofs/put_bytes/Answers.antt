use mathlib.Core.Path.{refl}
use Rattle.text.proofs.Putting.{put_over}
use Rattle.text.proofs.put_bytes.Goals as goal

pub returns : goal.returns
returns c = (refl, rw c.copy.ensures (put_over c.args.at c.args.text.now c.args.out.now c.requires))
