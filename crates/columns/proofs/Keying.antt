-- Given rows by rising time: the loop that puts the time of each one's start at the place of its row, and what the sort by these leaves.
-- Assumes nothing.
use Prim.Native.Nat.{ℕ, ◌+◌, ◌≤◌, ◌<◌}
use mathlib.Core.Path.{◌≡◌, sym, ap, ◌∙◌}
use mathlib.Core.Logic.{◌⊎◌, inl, inr}
use mathlib.Core.Bool.{Bool}
use mathlib.Core.List.{List, map}
use native.Mathlib.Decide.{ℕ_discrete}
use native.Mathlib.Omega.{arith}
use lib.ListN.{length, get_or, set, length-set}
use lib.Seq.{get_or-set_same, get_or-set_other}
use Rattle.lists.specs.Sorts.{sort}
use Rattle.lists.proofs.Images.{in_at, get_d_in, sort_map, sort_ext}
use Rattle.positions.proofs.Places.{below}
use Rattle.history.specs.declared.Op.{Op}
use Rattle.history.specs.Table.{row_count, op_at}
use Rattle.writers.specs.Writers.{Within}
use Rattle.methods.specs.Ranks.{starting}
use Rattle.preparation.specs.Times.{time_of, begins_first, by_time}
use Rattle.methods.specs.Mark.{row_numbers}
use Rattle.sorting.specs.Keys.{rises}
use Rattle.columns.specs.Rows.{Keyed}
use Rattle.preparation.proofs.Rows.{rows_back}

module _ (t rows keys₀ : List ℕ) where
  -- the time of the start of each of the first i rows stands at its place
  pub record Keying (i : ℕ) (keys : List ℕ) : Type 0 where
    pub wide : length keys ≡ length keys₀
    pub keyed : (k : ℕ) → k < i → get_or keys (get_or rows k 0) 0 ≡ time_of (starting (op_at t (get_or rows k 0)))

  -- each row has a place
  pub keying_inside : Within t rows → row_count t ≤ length keys₀ → (i : ℕ) (keys : List ℕ) → i < length rows → Keying i keys → get_or rows i 0 < length keys
  keying_inside w room i keys h g = omega (arith, w _ (get_d_in rows 0 i h), g.wide)

  pub keying_more : (i row v : ℕ) (keys : List ℕ) → row ≡ get_or rows i 0 → row < length keys → v ≡ time_of (starting (op_at t row)) → Keying i keys → Keying (i + 1) (set keys row v)
  keying_more i row v keys e inside s g = record { wide = length-set keys row v ∙ g.wide; keyed = each }
    where
      each : (k : ℕ) → k < i + 1 → get_or (set keys row v) (get_or rows k 0) 0 ≡ time_of (starting (op_at t (get_or rows k 0)))
      each k h =
          elim (ℕ_discrete (get_or rows k 0) row) [
            | yes q ↦ rw (q, get_or-set_same keys row v 0 inside) s
            | no n ↦ get_or-set_other keys row (get_or rows k 0) v 0 (λ q. n q) ∙ g.keyed k (earlier n (below k i))
          ]
        where
          earlier : ((get_or rows k 0 ≡ row) → ⊥) → (k < i) ⊎ (i ≤ k) → k < i
          earlier n (inl a) = a
          earlier n (inr a) = let q : k ≡ i = omega arith in absurd (n (ap (λ (x : ℕ). get_or rows x 0) q ∙ sym e))

  pub keying_end : (i : ℕ) (keys : List ℕ) → length rows ≤ i → Keying i keys → Keyed t rows keys
  keying_end i keys h g = record { keyed = λ x m. let p = in_at 0 m in rw (← p.2) (g.keyed p.0 (omega (arith, p.1))) }

-- rows that rise as they are are those of the operations by rising time
pub in_turn : (t rows : List ℕ) → sort (λ x y. begins_first (op_at t x) (op_at t y)) rows ≡ rows → rows ≡ row_numbers (by_time (map (op_at t) rows))
unfolding by_time
in_turn t rows e = sym e ∙ sym (rows_back t (sort le rows)) ∙ ap (λ (o : List Op). row_numbers o) (sym (sort_map (op_at t) begins_first rows))
  where
    le : ℕ → ℕ → Bool
    le x y = begins_first (op_at t x) (op_at t y)

-- the rows by these keys are those of the operations by rising time
pub keyed_sorts : (t rows keys new : List ℕ) → Keyed t rows keys → new ≡ sort (rises keys) rows → new ≡ row_numbers (by_time (map (op_at t) rows))
unfolding by_time
keyed_sorts t rows keys new k q =
    q
    ∙ sort_ext (rises keys) le rows (λ x y a b. rw (k.keyed x a, k.keyed y b))
    ∙ sym (rows_back t (sort le rows))
    ∙ ap (λ (o : List Op). row_numbers o) (sym (sort_map (op_at t) begins_first rows))
  where
    le : ℕ → ℕ → Bool
    le x y = begins_first (op_at t x) (op_at t y)
