use mathlib.Core.Path.{◌≡◌, ap, ◌∙◌}
use mathlib.Core.Logic.{inl, inr}
use native.Mathlib.Omega.{arith}
use Rattle.choice.specs.Offered.{backward, swap_if}
use Rattle.choice.proofs.Turning.{back_reverse, swap_two, swap_none}
use Rattle.choice.proofs.turn.Goals.{then-swap+then-out-gt1, else-swap, else-swap-via-then-swap+else-out-gt1, else-swap-via-else-swap}
use Rattle.choice.proofs.turn.Goals as goal

pub returns : goal.returns
returns c =
    let e : c.if-swap.out ≡ swap_if c.args.swap c.args.list.now =
    elim c.if-swap.branch [
      | then-swap+then-out-gt1 w ↦ w.out-is ∙ w.swap.ensures.after ∙ rw (c.copy.ensures, w.if-swap.true) (swap_two _ (omega arith))
      | else-swap w ↦ w.out-is ∙ c.copy.ensures ∙ swap_none _ _ (elim w.else-swap.branch [
        | else-swap-via-then-swap+else-out-gt1 v ↦ inr (omega arith)
        | else-swap-via-else-swap v ↦ inl v.if-swap.false
      ])
    ] in
    c.reverse.ensures.after ∙ back_reverse _ ∙ ap backward e
