-- The rows of a register that passes, at the front of a lent slice.
-- Assumes nothing.
use Prim.Native.Nat.{ℕ, ◌≤◌}
use mathlib.Core.Path.{◌≡◌, ap, sym, ◌∙◌}
use mathlib.Core.Bool.{Bool}
use mathlib.Core.List.{List}
use native.Mathlib.Omega.{arith}
use lib.ListN.{length, take}
use lib.Seq.{length-take-le}
use Rattle.history.specs.declared.Op.{Op}
use Rattle.history.specs.declared.Answer.{Answer}
use Rattle.history.specs.Table.{rows_of, history}
use Rattle.history.specs.Answer.{passed}
use Rattle.history.specs.Screen.{tests, examined}
use Rattle.history.proofs.Refusals.{code_no_fault, no_fault_answer}
use Rattle.history.proofs.Screened.{tests_coded}
use Rattle.history.proofs.Rows.{in_rows}
use Rattle.writers.specs.Writers.{Within}
use Rattle.screening.specs.Ready.{Gathered}

-- where none refuses, the answer has the count of the rows
pub examined_passed : (size : ℕ) (h : List Op) (b : Bool) → (examined size h b).code ≡ 0 → examined size h b ≡ passed (length h)
unfolding examined
examined_passed size h b e = let xs = tests size h b in no_fault_answer xs (passed (length h)) (code_no_fault xs (tests_coded size h b) (passed (length h)) e)

pub counted : (size : ℕ) (h : List Op) (b : Bool) (a : Answer) → a ≡ examined size h b → a.code ≡ 0 → a.rows ≡ length h
counted size h b a e z = ap (λ (x : Answer). x.rows) (e ∙ examined_passed size h b (sym (ap (λ (x : Answer). x.code) e) ∙ z))

module _ (t : List ℕ) (register : ℕ) (rows : List ℕ) (g : Gathered t register rows) (n : ℕ) (e : n ≡ length (history t register)) where
  pub front_in : n ≤ length rows
  front_in = omega (arith, e, g.room)

  pub front_long : n ≡ length (take n rows)
  front_long = sym (length-take-le n rows front_in)

  pub front_rows : take n rows ≡ rows_of t register
  front_rows = rw e g.front

-- they are within the table
pub rows_within : (t : List ℕ) (register : ℕ) (rows : List ℕ) → rows ≡ rows_of t register → Within t rows
rows_within t register rows e x m = omega (arith, (in_rows t register (rw e at m)).exists)
