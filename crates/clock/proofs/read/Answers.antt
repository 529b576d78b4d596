-- A text that is too short or too long says nothing; the others are read part by part.
use mathlib.Core.Logic.{inl, inr}
use Rattle.clock.proofs.Exact.{read_exactly}
use Rattle.clock.proofs.Lengths.{read_short, read_long}
use Rattle.clock.proofs.read.Goals as goal

pub returns-then-text-lt-SHORTEST : goal.returns-then-text-lt-SHORTEST
returns-then-text-lt-SHORTEST c =
    let whole = read_exactly _ _ (elim c.then-text-lt-SHORTEST.either [ inl h ↦ read_short _ h | inr h ↦ read_long _ h.1 ]) in
    record { said = whole.0; exactly = whole.1 }

pub returns : goal.returns
returns c =
    let whole = read_exactly _ _ c.parts.ensures in record { said = whole.0; exactly = whole.1 }
