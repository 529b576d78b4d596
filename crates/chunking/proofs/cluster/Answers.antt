use native.Mathlib.Omega.{arith}
use Rattle.chunking.proofs.Alone.{alone_ready, alone_laid, alone_shut}
use Rattle.chunking.proofs.cluster.Goals as goal

pub own-requires-clause-ready : goal.own-requires-clause-ready
own-requires-clause-ready c = alone_ready c.args.chains.now.writer.now c.args.w c.args.placed.now c.dye.new.placed c.args.order.now c.requires.writer_len_bound.0 c.requires.w_in_bounds.0 c.requires.w_in_bounds.1 c.requires.writer_len_bound.2 (omega (arith, c.dye.auto.placed, c.requires.writer_len_bound.1)) c.requires.shut c.dye.ensures

pub returns-clause-end : goal.returns-clause-end
returns-clause-end c = alone_laid c.args.chains.now.writer.now c.args.w c.args.placed.now c.dye.new.placed c.args.order.now c.requires.writer_len_bound.0 c.requires.w_in_bounds.0 c.requires.w_in_bounds.1 c.requires.writer_len_bound.2 (omega (arith, c.dye.auto.placed, c.requires.writer_len_bound.1)) c.requires.shut c.dye.ensures _ _ _ (c.own.ensures _)

pub returns-clause-marks : goal.returns-clause-marks
returns-clause-marks c = alone_shut c.args.chains.now.writer.now c.args.w c.args.placed.now c.dye.new.placed c.args.order.now c.requires.writer_len_bound.0 c.requires.w_in_bounds.0 c.requires.w_in_bounds.1 c.requires.writer_len_bound.2 (omega (arith, c.dye.auto.placed, c.requires.writer_len_bound.1)) c.requires.shut c.dye.ensures _ _ _ (c.own.ensures _)
