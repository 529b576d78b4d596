-- The four tests in their sequence: at each return those before were not met, and this one was.
use native.Mathlib.Omega.{arith}
use borrow.Author.Tests.{eq-eqb, ne_eqb, lt-ltb, le-ltb, le-leb, lt-leb}
use Rattle.logs.specs.Steps.{walked_tests}
use Rattle.history.specs.Answer.{first_met}
use Rattle.history.specs.Table.{largest_count}
use Rattle.logs.proofs.judge.Goals as goal

pub returns-then-number-ge-LARGEST_COUNT : goal.returns-then-number-ge-LARGEST_COUNT
unfolding first_met walked_tests
returns-then-number-ge-LARGEST_COUNT c = rw (le-leb largest_count c.args.number (omega arith)) c.at.ensures

pub returns-then-size-line : goal.returns-then-size-line
unfolding first_met walked_tests
returns-then-size-line c =
    rw
    (lt-leb largest_count c.args.number (omega arith), le-ltb c.args.line.end c.args.size (omega arith))
    c.at-then-size-line.ensures

pub returns-then-line-width : goal.returns-then-line-width
unfolding first_met walked_tests
returns-then-line-width c =
    rw
    (lt-leb largest_count c.args.number (omega arith), lt-ltb c.args.line.end c.args.size (omega arith), ne_eqb c.args.line.count c.args.width (λ e. omega arith))
    c.at-then-line-width.ensures

pub returns-in-Some : goal.returns-in-Some
unfolding first_met walked_tests
returns-in-Some c =
    rw
    (lt-leb largest_count c.args.number (omega arith), lt-ltb c.args.line.end c.args.size (omega arith), eq-eqb c.args.line.count c.args.width (omega arith), c.in-Some.is)
    c.at-in-Some.ensures

pub returns-in-None : goal.returns-in-None
unfolding first_met walked_tests
returns-in-None c =
    rw
    (lt-leb largest_count c.args.number (omega arith), lt-ltb c.args.line.end c.args.size (omega arith), eq-eqb c.args.line.count c.args.width (omega arith), c.in-None.is)
    c.passed.ensures
