use Prim.Native.Nat.{ℕ}
use mathlib.Core.List.{List}
use Rattle.chunking.specs.Inner.{Hangs}
use Rattle.chunking.proofs.Hanging.{Skipping}
use Rattle.chunking.proofs.skip.Given as goal

abbrev pub invariant-loop-i : goal.invariant-loop-i
invariant-loop-i l = (finish late forwards : List ℕ) → Hangs finish late forwards l.backwards l.marks → Skipping finish late forwards l.backwards l.j l.i
