use mathlib.Core.Path.{refl, sym, ◌∙◌}
use Prim.Native.Nat.{◌/◌}
use mathlib.Core.Path.{◌≡◌}
use native.Mathlib.Omega.{arith}
use lib.ListN.{length}
use Rattle.lists.specs.Lists.{keep, from}
use Rattle.screening.proofs.Loops.{count_in, count_out, count_end}
use Rattle.screening.proofs.count.Goals as goal
use Rattle.screening.proofs.count.Goals.{then-bears, else-bears}

pub loop-i-init : goal.loop-i-init
unfolding keep from
loop-i-init c = (omega arith, refl)

pub loop-i-preserved : goal.loop-i-preserved
loop-i-preserved c =
    elim c.if-bears.branch [
      | then-bears w ↦ (
        omega (arith, w.rows-is),
        omega (arith, w.rows-is, count_in c.args.table.now c.args.register c.loop-i.i (sym c.bears.ensures ∙ w.if-bears.true)),
      )
      | else-bears w ↦ (
        omega (arith, w.rows-is),
        omega (arith, w.rows-is, count_out c.args.table.now c.args.register c.loop-i.i (sym c.bears.ensures ∙ w.if-bears.false)),
      )
    ]

pub returns : goal.returns
returns c =
    let all : c.loop-i.i ≡ length c.args.table.now / 5 = omega arith in
    c.loop-i.invariant.1 ∙ rw all (count_end c.args.table.now c.args.register)
