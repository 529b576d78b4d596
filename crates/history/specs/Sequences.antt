-- The sequence of the tests, by their codes (document 01, "The answer and its numbers").
-- Assumes nothing.
use Rattle.std.specs.Prelude.{List, [], ◌∷◌, ◌++◌}
use Rattle.history.specs.declared.Code.{Code}
use Rattle.history.specs.declared.Code.TheVariants.{Ragged, Overfull, NoSuchQuestion, BadKind, BadSpan, SecondOpening, TwinWrite, OrphanRead, EarlyRead, ShortList, MisfitList, OutOfTime, TooFarBehind}

-- tests 1 to 9, which marking and the order check share; there is no 6 (02, W-203), and 20 stands after 5 (02, W-207)
abbrev pub common_sequence : List Code
common_sequence =
    Ragged ∷ Overfull ∷ NoSuchQuestion ∷ BadKind ∷ BadSpan ∷ SecondOpening ∷ TwinWrite ∷ OrphanRead ∷ EarlyRead ∷ []

-- marking: tests 1 to 10
abbrev pub mark_sequence : List Code
mark_sequence = common_sequence ++ ShortList ∷ []

-- the order check: tests 1 to 9, then 13 for a misfit and 13 for missing rows, 14, 15
abbrev pub check_sequence : List Code
check_sequence = common_sequence ++ MisfitList ∷ MisfitList ∷ OutOfTime ∷ TooFarBehind ∷ []
