use Rattle.choice.proofs.Trying.{run_inside, inner_inside, chunk_offered}
use Rattle.choice.proofs.choose.Goals as goal

pub above-top-requires-clause-run_in_bounds : goal.above-top-requires-clause-run_in_bounds
above-top-requires-clause-run_in_bounds c = run_inside _ c.args.columns.now.sound _ _ _ _ _ c.requires.chunk

pub above-top-requires-clause-inner_in_bounds : goal.above-top-requires-clause-inner_in_bounds
above-top-requires-clause-inner_in_bounds c = inner_inside _ c.args.columns.now.sound _ _ _ _ _ c.requires.chunk

pub first-found-requires : goal.first-found-requires
first-found-requires c = chunk_offered _ c.args.columns.now.sound _ _ _ _ _ c.requires.chunk c.requires.shut _ c.above-top.ensures
