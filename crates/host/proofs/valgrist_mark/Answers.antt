-- The file is refused, or the places that were found are what `code_sized` asks for.
use native.Mathlib.Omega.{arith}
use Rattle.selection.proofs.Selecting.{found_few, found_long}
use Rattle.host.proofs.Entry.{entry_refused}
use Rattle.host.proofs.valgrist_mark.Goals as goal

pub returns-then-found-ne0 : goal.returns-then-found-ne0
returns-then-found-ne0 c =
    let whole = entry_refused _ _ _ _ c.find-found.ensures.answer c.if-found-ne0.true in record { code = whole.0; said = whole.1.0; room = whole.1.1 }

pub slice_bounds-places-end : goal.slice_bounds-places-end
slice_bounds-places-end c = omega (arith, found_few _ _ _ c.find-found.ensures.answer _ (c.find-found.ensures.places c.if-found-ne0.false))

pub slice_bounds-places-end-2 : goal.slice_bounds-places-end-2
slice_bounds-places-end-2 c = found_long _ _ _ c.find-found.ensures.answer _ (c.find-found.ensures.places c.if-found-ne0.false)
