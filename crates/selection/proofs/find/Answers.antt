-- The pass finds the file sound, or the tests in their sequence give the refusal.
use Rattle.selection.proofs.Selecting.{find_not, find_all}
use Rattle.selection.proofs.find.Goals as goal

pub returns-in-Some : goal.returns-in-Some
returns-in-Some c =
    let whole = find_all _ _ _ _ c.in-Some.ensures _ c.passed.ensures in
    record { answer = whole.0; places = whole.1 }

pub returns-in-None : goal.returns-in-None
returns-in-None c =
    let whole = find_not _ _ _ c.in-None.ensures _ c.inspect.ensures in
    record { answer = whole.0; places = whole.1 }
