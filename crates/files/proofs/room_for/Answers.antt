use borrow.Author.Tests.{lt-ltb, le-ltb}
use Rattle.history.specs.Answer.{first_met}
use Rattle.files.proofs.room_for.Goals as goal

pub returns-then-room-needed : goal.returns-then-room-needed
unfolding first_met
returns-then-room-needed c = rw (lt-ltb c.args.room c.args.needed c.if-room-needed.true) c.at.ensures

pub returns : goal.returns
unfolding first_met
returns c = rw (le-ltb c.args.room c.args.needed c.if-room-needed.false) c.passed.ensures
