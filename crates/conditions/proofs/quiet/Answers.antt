-- A row is a write or another; either shows no condition (`quiet_write`, `quiet_other`).
use mathlib.Core.Path.{sym, ap, ap₂, ◌∙◌}
use native.Mathlib.Omega.{arith}
use borrow.Author.Tests.{leb-true, not-true}
use Prim.Native.Nat.{ℕ}
use Rattle.lists.proofs.Images.{get_d_in}
use mathlib.Core.Bool.{◌&&◌}
use lib.Dec.{ltb}
use Rattle.history.specs.Table.{is_opening, is_write, precedes}
use Rattle.conditions.specs.Tests.{first_opening}
use Rattle.history.specs.Screen.{wrong_kind, wrong_span}
use Rattle.writers.specs.Writers.{row_op}
use Rattle.conditions.proofs.Shows.{quiet_write, quiet_other}
use Rattle.conditions.proofs.quiet.Goals as goal

pub at-o-requires : goal.at-o-requires
at-o-requires c = c.requires.listed.within _ (get_d_in c.args.rows.now 0 c.args.i (omega arith))

pub reopens-requires : goal.reopens-requires
reopens-requires c = c.requires.listed.within

pub returns-then-is_write : goal.returns-then-is_write
returns-then-is_write c =
    λ q.
    let l = leb-true c.args.i c.entry-w.result q in
    quiet_write c.args.table.now c.args.rows.now c.args.writer.now c.args.i (ap wrong_kind (sym c.at-o.ensures) ∙ sym c.wrong_kind.ensures ∙ c.if-wrong_kind.false) (ap wrong_span (sym c.at-o.ensures) ∙ sym c.wrong_span.ensures ∙ c.if-wrong_span.false)
    (ap (λ o. is_opening o && ltb (first_opening c.args.table.now c.args.rows.now) c.args.i) (sym c.at-o.ensures) ∙ sym c.reopens.ensures ∙ c.if-reopens.false)
    (ap is_write (sym c.at-o.ensures) ∙ sym c.is_write.ensures ∙ c.if-is_write.true) (omega (arith, c.entry-w.ensures))

pub at-requires : goal.at-requires
at-requires c = c.requires.listed.within _ (get_d_in c.args.rows.now 0 c.entry-w.result (omega arith))

pub returns-then-w-rows : goal.returns-then-w-rows
returns-then-w-rows c =
    λ q.
    quiet_other c.args.table.now c.args.rows.now c.args.writer.now c.args.i (ap wrong_kind (sym c.at-o.ensures) ∙ sym c.wrong_kind.ensures ∙ c.if-wrong_kind.false) (ap wrong_span (sym c.at-o.ensures) ∙ sym c.wrong_span.ensures ∙ c.if-wrong_span.false)
    (ap (λ o. is_opening o && ltb (first_opening c.args.table.now c.args.rows.now) c.args.i) (sym c.at-o.ensures) ∙ sym c.reopens.ensures ∙ c.if-reopens.false)
    (ap is_write (sym c.at-o.ensures) ∙ sym c.is_write.ensures ∙ c.if-is_write.false) (omega (arith, c.entry-w.ensures))
    (ap₂ precedes (sym c.at-o.ensures) (ap (λ (w : ℕ). row_op c.args.table.now c.args.rows.now w) (sym c.entry-w.ensures) ∙ sym c.at.ensures) ∙ sym c.precedes.ensures ∙ not-true _ q)
