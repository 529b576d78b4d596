-- A file that cannot be read leaves the list; of the bytes of one that can, `listed` says all.
use native.Mathlib.Omega.{arith}
use mathlib.Core.Path.{◌≡◌}
use Rattle.std.proofs.lemmas.Result.{err_from_is_err_and}
use Rattle.console.specs.declared.ListFault.TheVariants.{Unreadable}
use Rattle.console.specs.Listings.{not_read}
use Rattle.console.proofs.Reading.{taken_of}
use Rattle.console.proofs.take_rows.Goals as goal

pub returns-in_err-n-clause-taken : goal.returns-in_err-n-clause-taken
returns-in_err-n-clause-taken g c =
    let p = err_from_is_err_and c.from_residual.result c.from_residual.ensures.1 in
    let e : p.0 ≡ Unreadable = grind (arith, c.in_err-n.ensures.value, p.2) in
    rw (p.1, e) not_read

pub returns-clause-taken : goal.returns-clause-taken
returns-clause-taken g c = taken_of _ _ _ _ c.listed.ensures.answer c.listed.ensures.list
