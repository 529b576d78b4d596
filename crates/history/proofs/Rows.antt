-- The rows of a register and its operations: which they are, that they rise, and that two tables alike have the same.
-- Assumes nothing.
use Prim.Native.Nat.{ℕ, ◌≤◌, ◌<◌, ◌/◌}
use mathlib.Core.Path.{◌≡◌, refl, ap, ◌∙◌}
use mathlib.Core.Bool.{Bool, true, false}
use mathlib.Core.List.{List, map, Memᴰ as In}
use native.Mathlib.Omega.{arith}
use lib.ListN.{length, length-map}
use Rattle.lists.specs.Lists.{keep, up_to}
use Rattle.lists.proofs.Tests.{Told, holds, fails, told_true, true_told, told_eqb}
use Rattle.lists.proofs.Members.{in_keep, keep_in, keep_ext, map_ext}
use Rattle.lists.specs.Pairs.{Pairs}
use Rattle.lists.proofs.Pairs.{pairs_keep}
use Rattle.lists.proofs.Ranges.{below_in, in_below, from_rises, from_length}
use Rattle.lists.proofs.Counts.{keep_length}
use Rattle.history.specs.Table.{cell, row_count, operation, op_at, RowOf, bears, rows_of, history, Alike}

pub told_bears : (t : List ℕ) (register i : ℕ) → Told (cell t i 0 ≡ register) (bears t register i)
unfolding bears
told_bears t register i = told_eqb (cell t i 0) register

pub in_rows : (t : List ℕ) (register : ℕ) {i : ℕ} → In i (rows_of t register) → RowOf t register i
unfolding rows_of
in_rows t register {i} m =
    let k = in_keep (bears t register) (up_to (row_count t)) m in
    record { exists = in_below (row_count t) k.0; bears = told_true (told_bears t register i) k.1 }

pub rows_in_lem : (t : List ℕ) (register : ℕ) {i : ℕ} → RowOf t register i → In i (rows_of t register)
unfolding rows_of
rows_in_lem t register {i} r = keep_in (bears t register) (up_to (row_count t)) (below_in (row_count t) r.exists) (true_told (told_bears t register i) r.bears)

pub rows_rise : (t : List ℕ) (register : ℕ) → Pairs (λ x y. x < y) (rows_of t register)
unfolding rows_of
rows_rise t register = pairs_keep (bears t register) (from_rises 0 (row_count t))

pub history_count : (t : List ℕ) (register : ℕ) → length (history t register) ≡ length (rows_of t register)
unfolding history
history_count t register = length-map (rows_of t register) (op_at t)

pub rows_few : (t : List ℕ) (register : ℕ) → length (history t register) ≤ row_count t
unfolding rows_of
rows_few t register = omega (arith, history_count t register, keep_length (bears t register) (up_to (row_count t)), from_length 0 (row_count t))

-- Two tables alike have the same operations of the register.
module _ {t u : List ℕ} {register : ℕ} (a : Alike t u register) where
  same_bears : (i : ℕ) → i < row_count t → bears t register i ≡ bears u register i
  same_bears i h = go (bears t register i) (told_bears t register i) (bears u register i) (told_bears u register i)
    where
      count : row_count t ≡ row_count u
      count = ap (λ n. n / 5) a.size

      go : (x : Bool) → Told (cell t i 0 ≡ register) x → (y : Bool) → Told (cell u i 0 ≡ register) y → x ≡ y
      go true (holds p) true (holds q) = refl
      go true (holds p) false (fails n) = absurd (n (a.kept i (record { exists = h; bears = p })).0.bears)
      go false (fails n) true (holds q) = absurd (n (a.no_more i (record { exists = omega arith; bears = q })).bears)
      go false (fails m) false (fails n) = refl

  pub same_op : (i : ℕ) → RowOf t register i → op_at t i ≡ op_at u i
  unfolding op_at
  same_op i r = ap (λ x. operation x i) (a.kept i r).1

  pub same_rows : rows_of t register ≡ rows_of u register
  unfolding rows_of
  same_rows =
      keep_ext (bears t register) (bears u register) (up_to (row_count t)) (λ i m. same_bears i (in_below (row_count t) m))
      ∙ ap (λ n. keep (bears u register) (up_to (n / 5))) a.size

  pub same_history : history t register ≡ history u register
  unfolding history
  same_history = map_ext (op_at t) (op_at u) (rows_of t register) (λ i m. same_op i (in_rows t register m)) ∙ ap (map (op_at u)) same_rows
