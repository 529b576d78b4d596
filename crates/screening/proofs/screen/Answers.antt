-- The answer is the defined one; the other two clauses are the theorems about it.
use mathlib.Core.Path.{ap, sym, ◌∙◌}
use Rattle.history.specs.Screen.{screening}
use Rattle.history.proofs.Screened.{screening_exactly}
use Rattle.screening.proofs.Examined.{alike_screening}
use Rattle.screening.proofs.screen.Goals as goal

pub returns : goal.returns
unfolding screening
returns c =
    let x = screening_exactly c.args.table.now c.args.register in
    record { answer = c.examine.ensures; meaning = (λ z. x.0 (sym (ap (λ a. a.code) c.examine.ensures) ∙ z), λ s. ap (λ a. a.code) c.examine.ensures ∙ x.1 s); alike = λ u a. c.examine.ensures ∙ alike_screening c.args.table.now u c.args.register a }
