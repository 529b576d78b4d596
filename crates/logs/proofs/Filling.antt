-- The row that a walk fills, cell by cell, is the row of the line's cells.
-- Assumes nothing.
use Prim.Native.Nat.{ℕ, suc, ◌+◌, ◌-◌, ◌≤◌, ◌<◌}
use mathlib.Core.Path.{◌≡◌, refl, sym, ap, ◌∙◌}
use mathlib.Core.Bool.{Bool, true, false, cond}
use mathlib.Core.List.{List, [], ◌∷◌}
use native.Mathlib.Omega.{arith}
use borrow.Author.Tests.{ne_eqb, eqb-true, eqb-false}
use lib.Dec.{eqb}
use lib.ListN.{length, get_or}
use Rattle.std.specs.Prelude.{Some}
use Rattle.parsing.specs.Numbers.{number_of}
use Rattle.clock.specs.Clock.{stamp_in}
use Rattle.clock.proofs.Forms.{stamp_none}
use Rattle.cells.specs.Parts.{comma, parts, kind_of}
use Rattle.cells.specs.Grids.{bytes_of, laid}
use Rattle.cells.proofs.Grids.{parts_laid}
use Rattle.headers.specs.declared.Columns.{Columns}
use Rattle.log_tables.specs.Logs.{said_in, amount, number_at, row_of}
use Rattle.logs.specs.Steps.{in_column, row_from, no_row}

module _ (cs : Columns) where
  -- an empty cell is worth nothing in any column
  none_said : (k : ℕ) → amount (said_in cs k []) ≡ 0
  unfolding said_in amount kind_of number_of
  none_said k = go (eqb k cs.kind) (eqb k cs.register) (eqb k cs.value) (eqb k cs.start) (eqb k cs.finish)
    where
      go : (a b c d e : Bool) → amount (cond a (kind_of []) (cond b (number_of []) (cond c (number_of []) (cond d (stamp_in []) (cond e (stamp_in []) (Some 0)))))) ≡ 0
      go true b c d e = refl
      go false true c d e = refl
      go false false true d e = refl
      go false false false true e = ap amount stamp_none
      go false false false false true = ap amount stamp_none
      go false false false false false = refl

  -- cells behind column c leave its number as it is
  passed_by : (c x k at : ℕ) (r : List (List ℕ)) → c < k → in_column cs c x (laid k at r) ≡ x
  unfolding in_column laid
  passed_by c x k at [] h = refl
  passed_by c x k at (t ∷ r) h =
      ap (λ (b : Bool). in_column cs c (cond b (amount (said_in cs k t)) x) (laid (suc k) (suc (at + length t)) r)) (ne_eqb k c (λ e. omega arith))
      ∙ passed_by c x (suc k) (suc (at + length t)) r (omega arith)

  -- and those up to it have it
  filled : (c x k at : ℕ) (r : List (List ℕ)) → k ≤ c → x ≡ 0 → in_column cs c x (laid k at r) ≡ amount (said_in cs c (get_or r (c - k) []))
  unfolding in_column laid
  filled c x k at [] h z = z ∙ sym (none_said c)
  filled c x k at (t ∷ r) h z = go (eqb k c) refl (filled c x (suc k) (suc (at + length t)) r)
    where
      go : (b : Bool) → eqb k c ≡ b → (suc k ≤ c → x ≡ 0 → in_column cs c x (laid (suc k) (suc (at + length t)) r) ≡ amount (said_in cs c (get_or r (c - suc k) [])))
          → in_column cs c (cond b (amount (said_in cs k t)) x) (laid (suc k) (suc (at + length t)) r) ≡ amount (said_in cs c (get_or (t ∷ r) (c - k) []))
      go true e next =
          let q = eqb-true k c e in
          let i : c - k ≡ 0 = omega arith in
          passed_by c (amount (said_in cs k t)) (suc k) (suc (at + length t)) r (omega arith)
          ∙ ap (λ (j : ℕ). amount (said_in cs j t)) q
          ∙ sym (rw i refl)
      go false e next =
          let i : c - k ≡ suc (c - suc k) = let n = eqb-false k c e in omega arith in
          next (let n = eqb-false k c e in omega arith) z ∙ sym (rw i refl)

  pub row_filled : (at : ℕ) (t : List ℕ) → row_from cs no_row (parts comma 0 at t) ≡ row_of cs (bytes_of (parts comma 0 at t))
  row_filled at t =
      let r = bytes_of (parts comma 0 at t) in
      let by : (c : ℕ) → in_column cs c 0 (parts comma 0 at t) ≡ number_at cs (bytes_of (parts comma 0 at t)) c =
      λ c. let i : c - 0 ≡ c = omega arith in
      ap (in_column cs c 0) (parts_laid comma 0 at t) ∙ filled c 0 0 at r (omega arith) refl ∙ ap (λ (j : ℕ). amount (said_in cs c (get_or r j []))) i in
      rw (by cs.register, by cs.kind, by cs.value, by cs.start, by cs.finish)
