use borrow.Author.Tests.{lt-ltb, le-ltb}
use Rattle.chunking.specs.Chunks.{lies}
use Rattle.chunking.proofs.lies.Goals as goal

pub returns-then-bottom-low : goal.returns-then-bottom-low
unfolding lies
returns-then-bottom-low c =
    let q = rw (c.low.ensures, c.of-zone.ensures) at c.if-bottom-low.true in
    rw (lt-ltb _ _ q, c.high.ensures, c.of-zone.ensures)

pub returns-else-bottom-low : goal.returns-else-bottom-low
unfolding lies
returns-else-bottom-low c =
    let q = rw (c.low.ensures, c.of-zone.ensures) at c.if-bottom-low.false in
    rw (c.low.ensures, c.of-zone.ensures, le-ltb _ _ q)
