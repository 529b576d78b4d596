-- The first two tests return at once; what the third finds is refused, else the last tests answer.
use Prim.Native.Nat.{◌/◌, ◌%◌}
use lib.ListN.{length}
use borrow.Author.Tests.{eq-eqb, ne_eqb, lt-ltb, le-ltb}
use Rattle.history.specs.Table.{largest_count}
use Rattle.history.specs.Answer.{first_met}
use Rattle.files.specs.Files.{write_tests}
use Rattle.files.proofs.examine.Goals as goal

pub returns-then-table-ne0 : goal.returns-then-table-ne0
unfolding first_met write_tests
returns-then-table-ne0 c =
    let size = length c.args.table.now in
    rw (ne_eqb (size % 5) 0 c.if-table-ne0.true) c.at.ensures

pub returns-then-table-gt-LARGEST_COUNT : goal.returns-then-table-gt-LARGEST_COUNT
unfolding first_met write_tests
returns-then-table-gt-LARGEST_COUNT c =
    let size = length c.args.table.now in
    rw (eq-eqb (size % 5) 0 c.if-table-ne0.false, lt-ltb largest_count (size / 5) c.if-table-gt-LARGEST_COUNT.true) c.at-then-table-gt-LARGEST_COUNT.ensures

pub returns-in-Some : goal.returns-in-Some
unfolding first_met write_tests
returns-in-Some c =
    let size = length c.args.table.now in
    rw (eq-eqb (size % 5) 0 c.if-table-ne0.false, le-ltb largest_count (size / 5) c.if-table-gt-LARGEST_COUNT.false, ← c.lowest_wrong.ensures, c.in-Some.is) c.at-in-Some.ensures

pub returns-in-None : goal.returns-in-None
unfolding first_met write_tests
returns-in-None c =
    let size = length c.args.table.now in
    rw (eq-eqb (size % 5) 0 c.if-table-ne0.false, le-ltb largest_count (size / 5) c.if-table-gt-LARGEST_COUNT.false, ← c.lowest_wrong.ensures, c.in-None.is) c.examine_stamps.ensures
