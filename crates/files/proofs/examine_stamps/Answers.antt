-- What the search finds is refused, else the test of the room answers.
use Rattle.history.specs.Answer.{first_met}
use Rattle.files.proofs.examine_stamps.Goals as goal

pub returns-in-Some : goal.returns-in-Some
unfolding first_met
returns-in-Some c = rw (← c.lowest_stray.ensures, c.in-Some.is) c.at.ensures

pub returns-in-None : goal.returns-in-None
unfolding first_met
returns-in-None c = rw (← c.lowest_stray.ensures, c.in-None.is, ← c.file_length.ensures) c.room_for.ensures
