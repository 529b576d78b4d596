use mathlib.Core.Path.{sym}
use lib.Seq.{take-length}
use Rattle.zone_method.proofs.Laying.{lay_none, next_laid}
use Rattle.zone_method.proofs.lay.Goals as goal

pub loop-w-init : goal.loop-w-init
loop-w-init c =
    rw (c.into_iter-w-iterator.ensures.into_iter_gives, c.rev-w-items.ensures.source, c.iter.ensures.rest)
    (tt, tt, sym (take-length c.args.list.now), lay_none _ _ _ c.requires.ready c.requires.whole)

pub loop-w-preserved : goal.loop-w-preserved
loop-w-preserved c =
    let i = c.loop-w.invariant in
    let n = next_laid _ _ _ _ _ _ i.2 c.in-Some.ensures.steps _ i.3 c.requires.once _ (c.own-at.ensures _) in
    (tt, tt, n.0, n.1)
