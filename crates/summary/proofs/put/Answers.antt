use native.Mathlib.Omega.{arith}
use lib.ListN.{length-set}
use Rattle.summary.proofs.Entries.{five_stored}
use Rattle.summary.proofs.put.Goals as goal

pub bounds-list-at-2 : goal.bounds-list-at-2
bounds-list-at-2 c = simp length-set (omega arith)

pub bounds-list-at-3 : goal.bounds-list-at-3
bounds-list-at-3 c = simp length-set (omega arith)

pub bounds-list-at-4 : goal.bounds-list-at-4
bounds-list-at-4 c = simp length-set (omega arith)

pub bounds-list-at-5 : goal.bounds-list-at-5
bounds-list-at-5 c = simp length-set (omega arith)

pub returns : goal.returns
returns c = five_stored c.args.list.now c.args.at c.args.register c.args.count c.args.one.code c.args.two.code c.args.two.row
