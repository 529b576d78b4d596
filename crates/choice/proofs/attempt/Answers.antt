use Rattle.choice.proofs.Trying.{offered_holds, offered_turns, offered_tried}
use Rattle.choice.proofs.attempt.Goals as goal

pub viable-requires-clause-holds : goal.viable-requires-clause-holds
viable-requires-clause-holds c = offered_holds _ c.args.columns.now.sound _ _ _ _ _ _ c.requires c.paint.new.placed c.paint.ensures c.paint.auto.placed

pub viable-requires-clause-turns : goal.viable-requires-clause-turns
viable-requires-clause-turns c = rw c.lay_out-m.ensures.1 (offered_turns _ c.args.columns.now.sound _ _ _ _ _ _ c.requires c.paint.new.placed c.paint.ensures c.paint.auto.placed c.args.flip c.args.swap)

pub returns-clause-end : goal.returns-clause-end
returns-clause-end c = offered_tried _ c.args.columns.now.sound _ _ _ _ _ _ c.requires c.paint.new.placed c.paint.ensures c.paint.auto.placed c.args.flip c.args.swap _ (rw c.lay_out-m.ensures.1 at c.viable.ensures.end)
