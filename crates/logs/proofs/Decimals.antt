-- Cells read without clock time: a number is the stamp that it says.
-- Assumes nothing.
use Prim.Native.Nat.{ℕ}
use mathlib.Core.Path.{◌≡◌, refl, sym, ap, ◌∙◌}
use mathlib.Core.Bool.{Bool, true, false, cond}
use mathlib.Core.List.{List}
use native.Mathlib.Omega.{arith}
use lib.Dec.{eqb}
use Rattle.std.specs.Prelude.{Option, Some}
use Rattle.parsing.specs.Numbers.{number_of}
use Rattle.clock.specs.Clock.{stamp_in}
use Rattle.clock.proofs.Forms.{stamp_number}
use Rattle.cells.specs.declared.Cell.{Cell}
use Rattle.cells.specs.Parts.{kind_of}
use Rattle.cells.specs.Steps.{cell_at, saying}
use Rattle.headers.specs.declared.Columns.{Columns}
use Rattle.log_tables.specs.Logs.{said_in}
use Rattle.logs.specs.Steps.{holds_number, SaysDecimal}

module _ (cs : Columns) (k : ℕ) (t : List ℕ) where
  said_kind : eqb k cs.kind ≡ true → said_in cs k t ≡ kind_of t
  unfolding said_in
  said_kind e = rw e

  said_number : eqb k cs.kind ≡ false → holds_number cs k ≡ true → (x : ℕ) → number_of t ≡ Some x → said_in cs k t ≡ Some x
  unfolding said_in holds_number
  said_number e h x n = rw e (go (eqb k cs.register) (eqb k cs.value) (eqb k cs.start) (eqb k cs.finish) h)
    where
      go : (a b c d : Bool) → cond a true (cond b true (cond c true d)) ≡ true
          → cond a (number_of t) (cond b (number_of t) (cond c (stamp_in t) (cond d (stamp_in t) (Some 0)))) ≡ Some x
      go true b c d h = n
      go false true c d h = n
      go false false true d h = stamp_number t x n
      go false false false true h = stamp_number t x n
      go false false false false h = let z : ◌≡◌ {A = ℕ} 0 1 = cc in absurd (omega arith)

  said_skipped : eqb k cs.kind ≡ false → holds_number cs k ≡ false → said_in cs k t ≡ Some 0
  unfolding said_in holds_number
  said_skipped e h = rw e (go (eqb k cs.register) (eqb k cs.value) (eqb k cs.start) (eqb k cs.finish) h)
    where
      go : (a b c d : Bool) → cond a true (cond b true (cond c true d)) ≡ false
          → cond a (number_of t) (cond b (number_of t) (cond c (stamp_in t) (cond d (stamp_in t) (Some 0)))) ≡ Some 0
      go true b c d h = let z : ◌≡◌ {A = ℕ} 0 1 = cc in absurd (omega arith)
      go false true c d h = let z : ◌≡◌ {A = ℕ} 0 1 = cc in absurd (omega arith)
      go false false true d h = let z : ◌≡◌ {A = ℕ} 0 1 = cc in absurd (omega arith)
      go false false false true h = let z : ◌≡◌ {A = ℕ} 0 1 = cc in absurd (omega arith)
      go false false false false h = refl

module _ (bs : List ℕ) (at : ℕ) (cs : Columns) (k : ℕ) (cell : Cell) where
  -- a cell that says n as it was read
  says_as : (n : Option ℕ) → cell ≡ saying bs at n → ((x : ℕ) → n ≡ Some x → said_in cs k (cell_at bs at) ≡ Some x) → SaysDecimal bs at cs k cell
  says_as n e said = record { ends = ap (λ (y : Cell). y.end) e; said = λ x is. said x (sym (ap (λ (y : Cell). y.number) e) ∙ is) }

  pub kind_says : eqb k cs.kind ≡ true → cell ≡ saying bs at (kind_of (cell_at bs at)) → SaysDecimal bs at cs k cell
  kind_says q e = says_as (kind_of (cell_at bs at)) e (λ x is. said_kind cs k (cell_at bs at) q ∙ is)

  module _ (q : eqb k cs.kind ≡ false) where
    pub number_says : holds_number cs k ≡ true → cell ≡ saying bs at (number_of (cell_at bs at)) → SaysDecimal bs at cs k cell
    number_says h e = says_as (number_of (cell_at bs at)) e (said_number cs k (cell_at bs at) q h)

    pub skipped_says : holds_number cs k ≡ false → cell ≡ saying bs at (Some 0) → SaysDecimal bs at cs k cell
    skipped_says h e = says_as (Some 0) e (λ x is. said_skipped cs k (cell_at bs at) q h ∙ is)
