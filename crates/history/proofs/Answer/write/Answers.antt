use Prim.Native.Nat.{◌≤◌}
use native.Mathlib.Omega.{arith}
use borrow.Author.Tests.{le-ltb}
use lib.Seq.{sets-eq}
use lib.ListN.{length, length-set}
use Rattle.lists.proofs.Decide.{decide}
use Rattle.history.specs.Answer.{numbers, answer_after, list_after}
use Rattle.history.proofs.Answer.write.Goals as goal

pub returns-then-list-lt4 : goal.returns-then-list-lt4
unfolding answer_after list_after
returns-then-list-lt4 c = search decide

pub bounds-list-1 : goal.bounds-list-1
bounds-list-1 c = simp length-set (omega arith)

pub bounds-list-2 : goal.bounds-list-2
bounds-list-2 c = simp length-set (omega arith)

pub returns : goal.returns
unfolding answer_after list_after
returns c = let long : 4 ≤ length c.args.list.now = omega arith in
    rw (le-ltb (length c.args.list.now) 4 long) (c.passed.ensures, sets-eq (numbers c.args.self) c.args.list.now 0 long)
