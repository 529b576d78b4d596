-- The first three tests return at once; the six that look at each row are those of `examine_gathered`.
use Prim.Native.Nat.{◌/◌, ◌%◌}
use borrow.Author.Tests.{eq-eqb, ne_eqb, lt-ltb, le-ltb}
use lib.ListN.{length}
use Rattle.history.specs.Table.{largest_count, history}
use Rattle.history.specs.Answer.{first_met}
use Rattle.history.specs.Screen.{examined, tests}
use Rattle.screening.proofs.Examined.{past_three}
use Rattle.screening.proofs.examine_into.Goals as goal

pub returns-then-table-ne0-clause-value : goal.returns-then-table-ne0-clause-value
unfolding examined tests first_met
returns-then-table-ne0-clause-value c =
    let size = length c.args.table.now in
    rw (ne_eqb (size % 5) 0 c.if-table-ne0.true) c.at.ensures

pub returns-then-table-gt-LARGEST_COUNT-clause-value : goal.returns-then-table-gt-LARGEST_COUNT-clause-value
unfolding examined tests first_met
returns-then-table-gt-LARGEST_COUNT-clause-value c =
    let size = length c.args.table.now in
    rw (eq-eqb (size % 5) 0 c.if-table-ne0.false, lt-ltb largest_count (size / 5) c.if-table-gt-LARGEST_COUNT.true) c.at-then-table-gt-LARGEST_COUNT.ensures

pub returns-then-unasked-clause-value : goal.returns-then-unasked-clause-value
unfolding examined tests first_met
returns-then-unasked-clause-value c =
    let size = length c.args.table.now in
    rw (eq-eqb (size % 5) 0 c.if-table-ne0.false, le-ltb largest_count (size / 5) c.if-table-gt-LARGEST_COUNT.false, c.if-unasked.true) c.at-then-unasked.ensures

pub returns-clause-value : goal.returns-clause-value
returns-clause-value c = rw (past_three (length c.args.table.now) (history c.args.table.now c.args.register) c.args.unasked c.if-table-ne0.false c.if-table-gt-LARGEST_COUNT.false c.if-unasked.false) c.examine_gathered.ensures.value
