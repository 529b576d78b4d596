use Prim.Native.Nat.{ℕ}
use mathlib.Core.Path.{refl, ap, ◌∙◌}
use mathlib.Core.List.{List, ◌++◌}
use native.Mathlib.Omega.{arith}
use lib.ListN.{length, get_or, drop}
use Rattle.records.specs.Records.{record_from, cells}
use Rattle.records.proofs.Blocks.{flat_places, length_blocks}
use Rattle.files.proofs.Filling.{fill_none, fill_more, fill_end}
use Rattle.selection.proofs.copy.Goals as goal

pub loop-i-init : goal.loop-i-init
loop-i-init c = fill_none _ _ _

pub loop-i-preserved : goal.loop-i-preserved
loop-i-preserved c = fill_more _ _ _ _ _ c.loop-i.invariant 5 (λ k. refl) (omega arith) _ c.read_row.ensures

pub returns : goal.returns
returns c =
    let g : ℕ → List ℕ = λ n. cells (record_from c.args.bytes.now n) in
    let h : ℕ → List ℕ = λ k. g (get_or c.args.picks.now k 0) in
    fill_end _ _ _ _ _ c.loop-i.invariant (omega arith) (omega (arith, c.requires.room, length_blocks h 5 (λ k. refl) (length c.args.picks.now)))
    ∙ ap (λ l. l ++ drop (length l) c.args.table.now) (flat_places g c.args.picks.now)
