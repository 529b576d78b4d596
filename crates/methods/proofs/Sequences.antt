-- The tests of the marking call and of the order check are document 01's, in its sequence.
-- Assumes nothing.
use Prim.Native.Nat.{ℕ}
use mathlib.Core.Path.{◌≡◌, refl}
use mathlib.Core.List.{List, map}
use Rattle.history.specs.declared.Op.{Op}
use Rattle.history.specs.Answer.{Test}
use Rattle.history.specs.declared.Code.{Code}
use Rattle.history.specs.Screen.{tests}
use Rattle.atomicity.specs.Check.{order_tests, check_tests}
use Rattle.methods.specs.Mark.{mark_tests}
use Rattle.history.specs.Sequences.{mark_sequence, check_sequence}

abbrev codes : List Test → List Code
codes xs = map (λ x. x.code) xs

pub mark_sequence_lem : (size : ℕ) (h : List Op) (question : ℕ) (list : List ℕ) → codes (mark_tests size h question list) ≡ mark_sequence
unfolding tests mark_tests
mark_sequence_lem size h question list = refl

pub check_sequence_lem : (t : List ℕ) (register k : ℕ) (order : List ℕ) → codes (check_tests t register k order) ≡ check_sequence
unfolding tests order_tests
check_sequence_lem t register k order = refl
