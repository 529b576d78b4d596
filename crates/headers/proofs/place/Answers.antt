use mathlib.Core.Logic.{inl, inr}
use Rattle.headers.specs.Header.{place}
use Rattle.headers.proofs.place.Goals as goal

pub returns-in-Only : goal.returns-in-Only
unfolding place
returns-in-Only c = rw c.in-Only.is

pub returns-in-Missing : goal.returns-in-Missing
unfolding place
returns-in-Missing c = elim c.in-Missing.is [ inl h ↦ rw h | inr h ↦ rw h ]
