use mathlib.Core.List.Memᴰ
use Rattle.freeing.proofs.Painting.{paint_both}
use Rattle.freeing.proofs.paint.Goals as goal

pub paint_list-requires-clause-writes : goal.paint_list-requires-clause-writes
paint_list-requires-clause-writes c = λ w m. c.requires.writes w (Memᴰ.append_left _ m)

pub paint_list-requires-2-clause-writes : goal.paint_list-requires-2-clause-writes
paint_list-requires-2-clause-writes c = λ w m. c.requires.writes w (Memᴰ.append_right c.args.run.now m)

pub returns : goal.returns
returns c = paint_both c.args.chains.now.writer.now c.args.run.now c.args.inner.now c.args.mark c.args.placed.now c.paint_list.new.placed c.paint_list-2.new.placed c.paint_list.ensures c.paint_list-2.ensures
