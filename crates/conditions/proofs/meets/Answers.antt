use native.Mathlib.Omega.{arith}
use mathlib.Core.Path.{◌∙◌}
use Rattle.lists.proofs.Images.{get_d_in}
use Rattle.conditions.specs.Tests.{shows}
use Rattle.conditions.proofs.meets.Goals as goal

pub at-o-requires : goal.at-o-requires
at-o-requires c = c.requires.listed.within _ (get_d_in c.args.rows.now 0 c.args.i (omega arith))

pub reopens-requires : goal.reopens-requires
reopens-requires c = c.requires.listed.within

pub returns-in-Kind : goal.returns-in-Kind
unfolding shows
returns-in-Kind c = rw c.in-Kind.is (c.wrong_kind.ensures ∙ rw c.at-o.ensures)

pub returns-in-Span : goal.returns-in-Span
unfolding shows
returns-in-Span c = rw c.in-Span.is (c.wrong_span.ensures ∙ rw c.at-o.ensures)

pub returns-in-Reopening : goal.returns-in-Reopening
unfolding shows
returns-in-Reopening c = rw c.in-Reopening.is (c.reopens.ensures ∙ rw c.at-o.ensures)

pub returns-in-Twin : goal.returns-in-Twin
unfolding shows
returns-in-Twin c = rw c.in-Twin.is (c.twin.ensures ∙ rw (c.at-o.ensures, c.entry.ensures))

pub returns-in-Orphan : goal.returns-in-Orphan
unfolding shows
returns-in-Orphan c = rw c.in-Orphan.is (c.orphan.ensures ∙ rw (c.at-o.ensures, c.entry-in-Orphan.ensures))

pub returns-in-Early : goal.returns-in-Early
unfolding shows
returns-in-Early c = rw c.in-Early.is (c.early.ensures ∙ rw (c.at-o.ensures, c.entry-in-Early.ensures))
