-- The pass that finds the first write of each value: from the last row down, each write leaves its place at the first holder of its value,
-- counted from the end, so that 0 is none.
-- Assumes nothing.
use Prim.Native.Nat.{ℕ, suc, ◌+◌, ◌-◌, ◌≤◌, ◌<◌}
use mathlib.Core.Path.{◌≡◌, ap, sym, ◌∙◌}
use mathlib.Core.Bool.{true, false}
use mathlib.Core.Logic.{◌≢◌}
use mathlib.Core.List.{List, map}
use native.Mathlib.Decide.{ℕ_discrete}
use native.Mathlib.Omega.{arith}
use borrow.Author.Tests.{eq-eqb, ne_eqb}
use lib.ListN.{length, get_or, drop, set, length-set, length-map}
use lib.Seq.{drop-cons, drop-length, get_or-set_same, get_or-set_other}
use Rattle.lists.proofs.Images.{get_d_map}
use Rattle.history.specs.Table.{op_at, is_write}
use Rattle.firsts.specs.Firsts.{Firsts}
use Rattle.firsts.proofs.Places.{firsts_low, firsts_same, firsts_equal}
use Rattle.writers.specs.Writers.{writes, writes_at, seek, value_of}
use Rattle.writers.specs.Marked.{Marked}

module _ (t rows firsts : List ℕ) where
  abbrev n : ℕ
  n = length rows

  abbrev val : ℕ → ℕ
  val j = value_of t (get_or rows j 0)

  -- the rows from i on are passed: each value's first write among them is told at the value's first holder
  pub record Marking (i : ℕ) (slots : List ℕ) : Type 0 where
    pub within : i ≤ n
    pub long : length slots ≡ n
    pub told : (j : ℕ) → j < n → get_or slots (get_or firsts j 0) 0 + (i + seek (writes_at t (val j)) (drop i rows)) ≡ n

  module _ (f : Firsts (map (value_of t) rows) firsts) where
    size : length (map (value_of t) rows) ≡ n
    size = length-map rows (value_of t)

    value_at : (j : ℕ) → j < n → get_or (map (value_of t) rows) j 0 ≡ val j
    value_at j h = get_d_map (value_of t) rows j 0 0 h

    pub first_inside : (j : ℕ) → j < n → get_or firsts j 0 < n
    first_inside j h = omega (arith, firsts_low f j (omega (arith, size)))

    alike : (i j : ℕ) → i < n → j < n → get_or firsts j 0 ≡ get_or firsts i 0 → val j ≡ val i
    alike i j h k e = sym (value_at j k) ∙ firsts_same f j i (omega (arith, size)) (omega (arith, size)) e ∙ value_at i h

    unlike : (i j : ℕ) → i < n → j < n → get_or firsts j 0 ≢ get_or firsts i 0 → val i ≢ val j
    unlike i j h k d e = d (firsts_equal f j i (omega (arith, size)) (omega (arith, size)) (value_at j k ∙ sym e ∙ sym (value_at i h)))

    pub mark_none : (slots : List ℕ) → length slots ≡ n → ((j : ℕ) → j < n → get_or slots j 0 ≡ 0) → Marking n slots
    unfolding seek
    mark_none slots q z =
        record {
          within = omega arith;
          long = q;
          told = λ j h. rw (z (get_or firsts j 0) (first_inside j h), drop-length rows) (omega arith);
        }

    module _ (i : ℕ) (slots : List ℕ) (h : 0 < i) (g : Marking i slots) where
      abbrev at : ℕ
      at = i - 1

      inside : at < n
      inside = omega (arith, g.within)

      rest : drop (suc at) rows ≡ drop i rows
      rest = let e : suc at ≡ i = omega arith in rw e

      -- the row does not write the value of j
      passed : (j : ℕ) → writes_at t (val j) (get_or rows at 0) ≡ false → at + seek (writes_at t (val j)) (drop at rows) ≡ i + seek (writes_at t (val j)) (drop i rows)
      unfolding seek
      passed j e = rw (drop-cons rows at 0 inside, e, rest) (omega arith)

      not_write : (j : ℕ) → is_write (op_at t (get_or rows at 0)) ≡ false → writes_at t (val j) (get_or rows at 0) ≡ false
      unfolding writes
      not_write j e = rw e

      pub mark_out : is_write (op_at t (get_or rows at 0)) ≡ false → Marking at slots
      mark_out e =
          record {
            within = omega (arith, inside);
            long = g.long;
            told = λ j k. ap (λ (z : ℕ). get_or slots (get_or firsts j 0) 0 + z) (passed j (not_write j e)) ∙ g.told j k;
          }

      module _ (e : is_write (op_at t (get_or rows at 0)) ≡ true) where
        abbrev new : List ℕ
        new = set slots (get_or firsts at 0) (n - at)

        same : (j : ℕ) → val j ≡ val at → seek (writes_at t (val j)) (drop at rows) ≡ 0
        unfolding seek writes
        same j q = rw (drop-cons rows at 0 inside, e, eq-eqb (val at) (val j) (sym q))

        other : (j : ℕ) → val at ≢ val j → writes_at t (val j) (get_or rows at 0) ≡ false
        unfolding writes
        other j d = rw (e, ne_eqb (val at) (val j) d)

        told_in : (j : ℕ) → j < n → get_or new (get_or firsts j 0) 0 + (at + seek (writes_at t (val j)) (drop at rows)) ≡ n
        told_in j k =
            elim (ℕ_discrete (get_or firsts j 0) (get_or firsts at 0)) [
              | yes q ↦
                  rw (q, get_or-set_same slots (get_or firsts at 0) (n - at) 0 (omega (arith, first_inside at inside, g.long)), same j (alike at j inside k q))
                  (omega (arith, inside))
              | no d ↦
                  rw (get_or-set_other slots (get_or firsts at 0) (get_or firsts j 0) (n - at) 0 d)
                  (ap (λ (z : ℕ). get_or slots (get_or firsts j 0) 0 + z) (passed j (other j (unlike at j inside k d))) ∙ g.told j k)
            ]

        pub mark_in : Marking at new
        mark_in = record { within = omega (arith, inside); long = length-set slots (get_or firsts at 0) (n - at) ∙ g.long; told = told_in }

  pub mark_end : (i : ℕ) (slots : List ℕ) → i ≡ 0 → Marking i slots → Marked t rows firsts slots
  mark_end i slots e g = record { wide = g.long; all = λ j h. go j h (rw e at (g.told j h)) }
    where
      go : (j : ℕ) → j < n → get_or slots (get_or firsts j 0) 0 + (0 + seek (writes_at t (val j)) rows) ≡ n → get_or slots (get_or firsts j 0) 0 + seek (writes_at t (val j)) rows ≡ n
      go j h q = omega arith
