use Prim.Native.Nat.{◌≤◌, ◌<◌}
use mathlib.Core.Path.{◌≡◌, refl}
use mathlib.Core.Bool.{true}
use mathlib.Core.Logic.{◌⊎◌, inl, inr}
use native.Mathlib.Omega.{arith}
use borrow.Author.Tests.{lt-ltb, le-ltb}
use Rattle.history.specs.declared.Op.{Op}
use Rattle.history.specs.Table.{largest_stamp}
use Rattle.history.specs.Screen.{stray_opening, wrong_span}
use Rattle.conditions.proofs.wrong_span.Goals as goal

either : (o : Op) → (o.finish < o.start) ⊎ ((o.start ≤ o.finish) × (largest_stamp < o.finish)) → true ≡ wrong_span o
unfolding wrong_span
either o (inl h) = rw (lt-ltb o.finish o.start h) refl
either o (inr (h, k)) = rw (le-ltb o.finish o.start h, lt-ltb largest_stamp o.finish k) refl

neither : (o : Op) → o.start ≤ o.finish → o.finish ≤ largest_stamp → stray_opening o ≡ wrong_span o
unfolding wrong_span
neither o h k = rw (le-ltb o.finish o.start h, le-ltb largest_stamp o.finish k) refl

pub returns-then-o : goal.returns-then-o
returns-then-o c = either _ c.then-o.either

pub returns : goal.returns
returns c = rw c.strays.ensures (neither _ (omega arith) (omega arith))
