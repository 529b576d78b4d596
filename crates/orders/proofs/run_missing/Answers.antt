use Prim.Native.Nat.{◌≤◌, ◌<◌}
use mathlib.Core.Path.{◌≡◌, refl, ◌∙◌}
use native.Mathlib.Omega.{arith}
use borrow.Author.Tests.{lt-ltb, le-ltb}
use lib.ListN.{length}
use Rattle.history.specs.Table.{rows_of}
use Rattle.history.proofs.Refusals.{ran_fault, ran_no_fault}
use Rattle.history.proofs.Rows.{history_count}
use Rattle.atomicity.specs.Check.{missing}
use Rattle.orders.specs.Faults.{missing_test}
use Rattle.orders.proofs.run_missing.Goals as goal

pub returns-then-listed-count : goal.returns-then-listed-count
unfolding missing
returns-then-listed-count c =
    let rows = length (rows_of c.args.table.now c.args.register) in
    let n : c.count.result ≡ rows = c.count.ensures ∙ history_count c.args.table.now c.args.register in
    let h : length c.args.list.now < rows = omega (arith, c.if-listed-count.true) in
    rw c.at.ensures (ran_fault (missing_test c.args.table.now c.args.register c.args.list.now) (length c.args.list.now) (rw (lt-ltb (length c.args.list.now) rows h) refl))

pub returns : goal.returns
unfolding missing
returns c =
    let rows = length (rows_of c.args.table.now c.args.register) in
    let n : c.count.result ≡ rows = c.count.ensures ∙ history_count c.args.table.now c.args.register in
    let h : rows ≤ length c.args.list.now = omega (arith, c.if-listed-count.false) in
    ran_no_fault (missing_test c.args.table.now c.args.register c.args.list.now) (rw (le-ltb (length c.args.list.now) rows h) refl)
