use mathlib.Core.Path.{sym, ◌∙◌}
use lib.ListN.{length}
use Rattle.lists.proofs.Stores.{sets_front}
use Rattle.parsing.specs.Numbers.{counted, stored, leading}
use Rattle.parsing.proofs.Lines.{lines_bad, lines_good, leading_length}
use Rattle.parsing.proofs.list.Goals as goal

pub returns-then-not-sound : goal.returns-then-not-sound
unfolding counted stored
returns-then-not-sound c =
    let e = lines_bad c.args.text.now (length c.args.list.now) (sym c.sound.ensures ∙ c.if-not-sound.true) in
    (rw e, rw e)

pub returns : goal.returns
unfolding counted stored
returns c =
    let k = length c.args.list.now in
    let e = lines_good c.args.text.now k (sym c.sound.ensures ∙ c.if-not-sound.false) in
    (rw (e, c.fill.ensures.0), rw e (c.fill.ensures.1 ∙ sets_front (leading k c.args.text.now) c.args.list.now (leading_length k c.args.text.now)))
