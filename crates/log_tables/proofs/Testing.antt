-- The tests of data lines: their codes, and what passing them says of the count.
-- Assumes nothing.
use Prim.Native.Nat.{ℕ, ◌*◌, ◌<◌}
use mathlib.Core.Path.{◌≡◌, refl}
use mathlib.Core.Bool.{Bool, true, false, cond}
use mathlib.Core.List.{List, [], ◌∷◌, ◌++◌, flat_map}
use native.Mathlib.Omega.{arith}
use borrow.Author.Tests.{leb-false}
use lib.Dec.{leb}
use lib.ListN.{length}
use Rattle.std.specs.Prelude.{Some, None}
use Rattle.history.specs.Table.{largest_count}
use Rattle.history.proofs.Refusals.{NoFault, Coded, coded_append}
use Rattle.cells.specs.Parts.{Part}
use Rattle.headers.specs.declared.Columns.{Columns}
use Rattle.log_tables.specs.Logs.{line_tests, rows_of}

pub length_rows : (cs : Columns) (ls : List Part) → length (rows_of cs ls) ≡ length ls * 5
unfolding flat_map
length_rows cs [] = refl
length_rows cs (l ∷ ls) = omega (arith, length_rows cs ls)

module _ (bs : List ℕ) (cs : Columns) (w : ℕ) where
  pub line_coded : (l : Part) → Coded (line_tests bs cs w l)
  unfolding line_tests
  line_coded l = (λ z. omega arith, (λ z. omega arith, (λ z. omega arith, (λ z. omega arith, tt))))

  pub lines_coded : (ls : List Part) → Coded (flat_map (line_tests bs cs w) ls)
  unfolding flat_map
  lines_coded [] = tt
  lines_coded (l ∷ ls) = coded_append (line_tests bs cs w l) (flat_map (line_tests bs cs w) ls) (line_coded l) (lines_coded ls)

  pub line_few : (l : Part) → NoFault (line_tests bs cs w l) → l.number < largest_count
  unfolding line_tests
  line_few l h = go (leb largest_count l.number) refl h.0
    where
      go : (b : Bool) → leb largest_count l.number ≡ b → cond b (Some l.at) None ≡ None → l.number < largest_count
      go true e q = let z : ◌≡◌ {A = ℕ} 0 1 = cc in absurd (omega arith)
      go false e q = leb-false largest_count l.number e

  -- the tests of the first of some lines come first
  pub tests_cons : (l : Part) (ls : List Part) → NoFault (flat_map (line_tests bs cs w) (l ∷ ls)) → NoFault (line_tests bs cs w l ++ flat_map (line_tests bs cs w) ls)
  unfolding flat_map
  tests_cons l ls q = q
