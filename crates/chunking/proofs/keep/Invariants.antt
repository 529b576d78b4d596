use Prim.Native.Nat.{ℕ, ◌<◌, ◌≤◌}
use mathlib.Core.Path.{◌≡◌}
use mathlib.Core.Bool.{Bool}
use lib.ListN.{length, get_or}
use Rattle.chunking.proofs.Keeping.{Keeping}
use Rattle.chunking.proofs.keep.Given as goal

abbrev pub invariant-loop-w : goal.invariant-loop-w
invariant-loop-w g l =
    (l.m ≤ l.w-index)
    × ((test : ℕ → Bool) → ((i : ℕ) (r : Bool) → i < length l.list → goal.F-post g l.passes (get_or l.list i 0) r → r ≡ test (get_or l.list i 0)) →
    Keeping test l.list l.w-index l.m l.out l.initial.out)
