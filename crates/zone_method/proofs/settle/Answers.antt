-- Where the decision is that the register is 1-atomic, the clusters are laid by low end into the lent order, from its end on.
use Rattle.zone_method.proofs.Found.{lay_asks, search_stale, search_fresh}
use Rattle.zone_method.proofs.settle.Goals as goal

pub lay-from-requires : goal.lay-from-requires
lay-from-requires c =
    let rest = lay_asks _ c.args.columns.now.sound c.requires.few _ c.requires.zoned _ c.requires.list_value _ c.requires.says _ _ c.requires.placed_room c.requires.free c.requires.order_room in
    record { ready = rest.0; whole = rest.1.0; once = rest.1.1 }

pub returns-then-one : goal.returns-then-one
returns-then-one c = search_fresh _ c.args.columns.now.sound c.requires.few _ c.requires.zoned _ c.requires.list_value _ c.requires.says _ _ c.requires.placed_room c.requires.free c.requires.order_room _ c.if-one.true c.lay-from.ensures c.lay-from.auto.order

pub returns-else-one : goal.returns-else-one
returns-else-one c = search_stale _ c.args.columns.now.sound c.requires.few _ c.requires.zoned _ c.requires.list_value _ c.requires.says _ c.if-one.false
