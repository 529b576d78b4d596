use mathlib.Core.Path.{◌≡◌, refl}
use mathlib.Core.Bool.{Bool, true, false, not, cond, beq}
use Rattle.chunking.specs.Chunks.{faces}
use Rattle.chunking.proofs.faces.Goals as goal

as_asked : (a b : Bool) → beq a b ≡ cond b a (not a)
as_asked true true = refl
as_asked true false = refl
as_asked false true = refl
as_asked false false = refl

pub returns : goal.returns
unfolding faces
returns c = rw (c.forward.ensures, c.of.ensures) (as_asked _ _)
