use Rattle.std.proofs.Common.{rules}
use Rattle.chunking.proofs.Enclosing.{enclosed}
use Rattle.chunking.proofs.enclose.Goals as goal

pub returns : goal.returns
returns c = enclosed _ _ _ _ _ _ c.requires.rises c.requires.behind _ c.reach-next.ensures _ _ c.keep-count.ensures.few (c.keep-count.ensures.written _ (search rules))
