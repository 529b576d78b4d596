-- What the tests of one or two operations tell.
-- Assumes nothing.
use mathlib.Core.Path.{◌≡◌, refl, sym}
use mathlib.Core.Bool.{Bool, true, false, not}
use Rattle.lists.proofs.Tests.{Told, holds, fails, both, true_not, told_as, told_and, told_or, told_ltb, told_eqb}
use Rattle.history.specs.declared.Op.{Op}
use Rattle.history.specs.Table.{is_opening, is_write, is_read, precedes, Precedes, dictates, Dictates}

-- a test tells of itself
pub told_flag : (b : Bool) → Told (b ≡ true) b
told_flag true = holds refl
told_flag false = fails (λ e. both e refl)

pub told_write : (o : Op) → Told (is_write o ≡ true) (is_write o)
told_write o = told_flag (is_write o)

pub told_read : (o : Op) → Told (o.kind ≡ 2) (is_read o)
unfolding is_read
told_read o = told_eqb o.kind 2

pub told_precedes : (a b : Op) → Told (Precedes a b) (precedes a b)
unfolding precedes
told_precedes a b = told_or (told_ltb a.finish b.start) (told_and (told_flag (is_opening a)) (told_as (not_true (is_opening b)) true_not (told_flag (not (is_opening b)))))
  where
    not_true : (b : Bool) → not b ≡ true → b ≡ false
    not_true true e = sym e
    not_true false e = refl

pub told_dictates : (w r : Op) → Told (Dictates w r) (dictates w r)
unfolding dictates
told_dictates w r =
    told_as
    (λ h. record { writes = h.0.0; reads = h.0.1; same = h.1 })
    (λ d. ((d.writes, d.reads), d.same))
    (told_and (told_and (told_write w) (told_read r)) (told_eqb w.value r.value))
