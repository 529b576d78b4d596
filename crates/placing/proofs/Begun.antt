-- The state before anything is placed, of marks that are clean and an order with all its places: it holds, the whole history is left, and
-- nothing is laid.
-- Assumes nothing.
use Prim.Native.Nat.{ℕ, ◌≤◌, ◌<◌}
use mathlib.Core.Path.{◌≡◌, ap, ◌∙◌}
use mathlib.Core.Bool.{true}
use mathlib.Core.List.{List, []}
use native.Mathlib.Omega.{arith}
use lib.ListN.{length, take, replicate, length-replicate, get_or-replicate, drop_of_length-le}
use lib.Seq.{take_all}
use Rattle.positions.specs.Columns.{Cols, size, wr, Sound, ops, Says}
use Rattle.positions.proofs.Places.{upto_length}
use Rattle.positions.proofs.Ops.{ops_all}
use Rattle.positions.proofs.OfHistory.{size_is}
use Rattle.placing.specs.States.{State, is_free, left, laid, state_of, Holds}

-- no place is marked at the outset
pub unmarked : (n i : ℕ) → i < length (replicate {A = ℕ} n 0) → is_free (replicate n 0) i ≡ true
unmarked n i l = rw (get_or-replicate {A = ℕ} n i 0 0 (omega (arith, l, length-replicate {A = ℕ} n 0)))

module _ (C : Cols) (p : Sound C) (n : size C ≤ 1024) (placed order : List ℕ) (m : size C ≤ length placed) (f : (j : ℕ) → j < length placed → is_free placed j ≡ true)
    (z : size C ≤ length order) where
  abbrev begun : State
  begun = state_of placed order (length order) (size C)

  pub begun_laid : laid begun ≡ []
  begun_laid = drop_of_length-le order {i = length order} (omega arith)

  pub begun_holds : Holds C begun
  begun_holds =
      record {
        ready =
            record {
              size = n;
              within = omega arith;
              marks = m;
              high = omega arith;
              room = omega (arith, upto_length (is_free placed) (size C));
              above = λ j a b. absurd (omega arith);
            };
        closed = λ j l e. f (wr C j) (omega (arith, p.shape.writers j l));
      }

  pub begun_left : Says C (λ H. ops H (left begun) ≡ H)
  begun_left H o =
      ops_all H (is_free placed) (size C) (omega (arith, size_is o)) (λ j l. f j (omega arith))
      ∙ ap (λ (k : ℕ). take k H) (size_is o)
      ∙ take_all (length H) H (omega arith)
