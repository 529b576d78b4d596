use Rattle.freeing.proofs.Topping.{above_both}
use Rattle.freeing.proofs.above.Goals as goal

pub returns : goal.returns
returns c = above_both _ _ _ _ _ _ c.above_list-top.ensures c.above_list.ensures
