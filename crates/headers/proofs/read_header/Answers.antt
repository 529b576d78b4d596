use Prim.Native.Nat.{ℕ}
use mathlib.Core.Path.{◌≡◌, sym, ap, ◌∙◌}
use mathlib.Core.Bool.{false, cond}
use mathlib.Core.List.{List}
use native.Mathlib.Omega.{arith}
use lib.Dec.{ltb}
use lib.ListN.{length}
use Rattle.std.proofs.lemmas.Grind.{common_steps}
use Rattle.cells.proofs.Parting.{comma_within}
use Rattle.cells.proofs.Reading.{cell_part}
use Rattle.headers.specs.Header.{complete}
use Rattle.headers.specs.Steps.{named_with}
use Rattle.headers.proofs.Heading.{head_none, head_within, head_more, head_end}
use Rattle.headers.proofs.read_header.Goals as goal

pub loop-named-init : goal.loop-named-init
loop-named-init c = head_none _

pub slice_bounds-named_at-end : goal.slice_bounds-named_at-end
slice_bounds-named_at-end c = omega (arith, head_within _ _ _ _ c.loop-named.invariant _ c.cell_end-end.ensures)

pub overflow_add-result : goal.overflow_add-result
overflow_add-result c = omega (arith, head_within _ _ _ _ c.loop-named.invariant c.cell_end-end.result c.cell_end-end.ensures)

pub returns-then-not-comma_at : goal.returns-then-not-comma_at
returns-then-not-comma_at c =
    let found = c.named_at-named.ensures ∙ ap (λ (t : List ℕ). named_with c.loop-named.named t c.loop-named.k) (cell_part c.args.bytes.now c.loop-named.at c.cell_end-end.result c.cell_end-end.ensures) in
    let sound : c.if-end-bytes.result ≡ cond (ltb c.cell_end-end.result (length c.args.bytes.now)) (complete c.named_at-named.result) false = grind (arith, common_steps) in
    rw (c.places_of.ensures, sound, found)
    (head_end c.args.bytes.now _ _ _ c.loop-named.invariant c.cell_end-end.result c.cell_end-end.ensures (sym c.if-not-comma_at.ensures))

pub overflow_add-at : goal.overflow_add-at
overflow_add-at c = omega (arith, comma_within c.args.bytes.now c.loop-named.at c.cell_end-end.result c.cell_end-end.ensures (sym c.comma_at.ensures ∙ c.if-not-comma_at.false))

pub loop-named-preserved : goal.loop-named-preserved
loop-named-preserved c =
    let found = c.named_at-named.ensures ∙ ap (λ (t : List ℕ). named_with c.loop-named.named t c.loop-named.k) (cell_part c.args.bytes.now c.loop-named.at c.cell_end-end.result c.cell_end-end.ensures) in
    rw found
    (head_more c.args.bytes.now _ _ _ c.loop-named.invariant c.cell_end-end.result c.cell_end-end.ensures (sym c.comma_at.ensures ∙ c.if-not-comma_at.false))
