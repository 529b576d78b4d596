use Prim.Native.Nat.{ℕ}
use mathlib.Core.Path.{◌≡◌, refl, ap, sym, ◌∙◌}
use mathlib.Core.List.{List, [], ◌∷◌}
use native.Mathlib.Omega.{arith}
use lib.ListN.{length, get_or}
use lib.Dec.{ltb}
use borrow.Author.Tests.{le-ltb, lt-ltb}
use Rattle.std.specs.Prelude.{Option, Some, None, slice_get, is_some}
use Rattle.std.specs.Borrow.{Bor}
use Rattle.std.specs.Option.{option_copied, IfSome}
use Rattle.lists.proofs.Tests.{both}
use Rattle.choice.specs.Offered.{end_at}
use Rattle.choice.proofs.end_at.Goals as goal

second : (l : List ℕ) (r : Option (Bor ℕ)) → is_some r ≡ ltb 1 (length l) → IfSome r (λ x. x.now ≡ get_or l 1 x.now) → option_copied r ≡ slice_get l 1
second [] None e h = refl
second [] (Some x) e h = absurd (both (sym e) (le-ltb 1 0 (omega arith)))
second (v ∷ []) None e h = refl
second (v ∷ []) (Some x) e h = absurd (both (sym e) (le-ltb 1 1 (omega arith)))
second (v ∷ (w ∷ l)) None e h = absurd (both (lt-ltb 1 (length (v ∷ (w ∷ l))) (omega arith)) (sym e))
second (v ∷ (w ∷ l)) (Some x) e h = ap (λ (y : ℕ). Some y) h

pub returns-then-first : goal.returns-then-first
unfolding end_at
returns-then-first c = rw c.if-first.true (c.copied.ensures ∙ c.first.ensures.value)

pub returns-else-first : goal.returns-else-first
unfolding end_at
returns-else-first c = rw c.if-first.false (c.copied-else-first.ensures ∙ second _ _ c.get.ensures.lookup.0 c.get.ensures.lookup.1)
