-- What a cell says, byte by byte.
-- Assumes nothing.
use Prim.Native.Nat.{ℕ, suc, ◌+◌, ◌-◌, ◌^◌, ◌≤◌, ◌<◌}
use mathlib.Core.Path.{◌≡◌, refl, sym, ap, ◌∙◌}
use mathlib.Core.Bool.{Bool, true, false, cond, ◌||◌}
use mathlib.Core.List.{List, [], ◌∷◌}
use native.Mathlib.Numerals.{add-one}
use native.Mathlib.Omega.{arith}
use borrow.Author.Tests.{eqb-true, lt-ltb, le-ltb, ltb-true, ltb-false}
use lib.Dec.{eqb, ltb}
use lib.ListN.{length, get_or, take, drop, drop_of_length-le, length-drop}
use lib.Seq.{drop-cons}
use Rattle.lists.specs.Lists.{all}
use Rattle.std.specs.Prelude.{Option, Some, None}
use Rattle.parsing.specs.Numbers.{is_digit, worth, says, number_of}
use Rattle.parsing.proofs.Values.{held_small, says_next, says_fits, says_not, number_empty, number_some}
use Rattle.cells.specs.declared.Cell.{Cell}
use Rattle.cells.specs.Parts.{comma, feed, kind_of}
use Rattle.cells.specs.Steps.{cell_in, cell_at, end_of}

abbrev pub stop : ℕ → Bool
stop b = eqb b comma || eqb b feed

pub cell_is : (e f : ℕ) (m n : Option ℕ) → e ≡ f → m ≡ n → ◌≡◌ {A = Cell} (record { end = e; number = m }) (record { end = f; number = n })
cell_is e f m n p q = cc

-- one byte of a cell
module _ (bs : List ℕ) (i : ℕ) where
  pub cell_none : length bs ≤ i → cell_at bs i ≡ []
  unfolding cell_in
  cell_none h = rw (drop_of_length-le bs h)

  module _ (h : i < length bs) where
    pub cell_stop : stop (get_or bs i 0) ≡ true → cell_at bs i ≡ []
    unfolding cell_in
    cell_stop e = rw (drop-cons bs i 0 h, e)

    pub cell_on : stop (get_or bs i 0) ≡ false → cell_at bs i ≡ get_or bs i 0 ∷ cell_at bs (i + 1)
    unfolding cell_in
    cell_on e = rw (drop-cons bs i 0 h, e, add-one i)

pub cell_length : (t : List ℕ) → length (cell_in t) ≤ length t
unfolding cell_in
cell_length [] = omega arith
cell_length (b ∷ t) = go (stop b) (cell_length t)
  where
    go : (d : Bool) → length (cell_in t) ≤ length t → length (cond d [] (b ∷ cell_in t)) ≤ suc (length t)
    go true h = omega arith
    go false h = omega arith

cell_take : (t : List ℕ) → take (length (cell_in t)) t ≡ cell_in t
unfolding cell_in
cell_take [] = refl
cell_take (b ∷ t) = go (stop b) (cell_take t)
  where
    go : (d : Bool) → take (length (cell_in t)) t ≡ cell_in t → take (length (cond d [] (b ∷ cell_in t))) (b ∷ t) ≡ cond d [] (b ∷ cell_in t)
    go true h = refl
    go false h = ap (λ (l : List ℕ). b ∷ l) h

-- the cell as a part of the text
pub cell_part : (bs : List ℕ) (at end : ℕ) → end ≡ end_of bs at → take (end - at) (drop at bs) ≡ cell_at bs at
cell_part bs at end e = let n : end - at ≡ length (cell_at bs at) = omega (arith, e) in ap (λ (k : ℕ). take k (drop at bs)) n ∙ cell_take (drop at bs)

module _ (bs : List ℕ) (at : ℕ) where
  pub end_within : at ≤ length bs → end_of bs at ≤ length bs
  end_within h = omega (arith, cell_length (drop at bs), length-drop at bs)

  pub some_within : 0 < length (cell_at bs at) → at < length bs
  some_within h = omega (arith, cell_length (drop at bs), length-drop at bs)

-- what is a digit does not end a cell
pub digit_on : (v b w : ℕ) → says v (b ∷ []) ≡ Some w → stop b ≡ false
unfolding says all is_digit
digit_on v b w h = go (eqb b comma) (eqb b feed) refl refl
  where
    no : (x : ℕ) → b ≡ x → says v (x ∷ []) ≡ None → ⊥
    no x e n = let z : ◌≡◌ {A = ℕ} 0 1 = cc in omega arith

    go : (d f : Bool) → eqb b comma ≡ d → eqb b feed ≡ f → (d || f) ≡ false
    go true f e g = absurd (no 44 (eqb-true b 44 e) refl)
    go false true e g = absurd (no 10 (eqb-true b 10 g) refl)
    go false false e g = refl

-- what the whole cell says is what the bytes from here on say behind the value so far
pub record Digits (bs : List ℕ) (at value i : ℕ) : Type 0 where
  pub small : value < 2 ^ 64
  pub ends : end_of bs at ≡ end_of bs i
  pub whole : says 0 (cell_at bs at) ≡ says value (cell_at bs i)

module _ (bs : List ℕ) (at : ℕ) where
  pub digits_none : Digits bs at 0 at
  digits_none = record { small = omega arith; ends = refl; whole = refl }

  module _ (value i : ℕ) (g : Digits bs at value i) where
    says_nothing : says value [] ≡ Some value
    unfolding says all worth
    says_nothing = held_small value g.small

    pub digits_end : length bs ≤ i → (end_of bs at ≡ i) × (says 0 (cell_at bs at) ≡ Some value)
    digits_end h = (omega (arith, g.ends, ap length (cell_none bs i h)), g.whole ∙ ap (says value) (cell_none bs i h) ∙ says_nothing)

    module _ (h : i < length bs) where
      pub digits_more : (w : ℕ) → says value (get_or bs i 0 ∷ []) ≡ Some w → Digits bs at w (i + 1)
      digits_more w e =
          let on = cell_on bs i h (digit_on value (get_or bs i 0) w e) in
          record {
            small = says_fits value (get_or bs i 0) w e;
            ends = omega (arith, g.ends, ap length on);
            whole = g.whole ∙ ap (says value) on ∙ says_next value (get_or bs i 0) (cell_at bs (i + 1)) w e;
          }

      pub digits_off : says value (get_or bs i 0 ∷ []) ≡ None → says 0 (cell_at bs at) ≡ cond (ltb i (end_of bs i)) None (Some value)
      digits_off e = go (stop (get_or bs i 0)) refl
        where
          go : (d : Bool) → stop (get_or bs i 0) ≡ d → says 0 (cell_at bs at) ≡ cond (ltb i (end_of bs i)) None (Some value)
          go true q =
              let none = cell_stop bs i h q in
              g.whole ∙ ap (says value) none ∙ says_nothing ∙ rw (le-ltb i (end_of bs i) (omega (arith, ap length none)))
          go false q =
              let on = cell_on bs i h q in
              g.whole ∙ ap (says value) on ∙ says_not value (get_or bs i 0) (cell_at bs (i + 1)) e ∙ rw (lt-ltb i (end_of bs i) (omega (arith, ap length on)))

-- a kind cell
module _ (bs : List ℕ) (at : ℕ) where
  pub kind_other : (t : List ℕ) → (length t ≡ 1 → ⊥) → kind_of t ≡ None
  unfolding kind_of
  kind_other [] h = refl
  kind_other (b ∷ []) h = absurd (h refl)
  kind_other (b ∷ d ∷ t) h = refl

  pub kind_one : length (cell_at bs at) ≡ 1 → cell_at bs at ≡ get_or bs at 0 ∷ []
  kind_one e = begins (ltb at (length bs)) refl
    where
      none : (t : List ℕ) → length t ≡ 0 → t ≡ []
      none [] z = refl
      none (b ∷ t) z = absurd (omega arith)

      goes : at < length bs → (d : Bool) → stop (get_or bs at 0) ≡ d → cell_at bs at ≡ get_or bs at 0 ∷ []
      goes h true q = absurd (omega (arith, ap length (cell_stop bs at h q)))
      goes h false q =
          let on = cell_on bs at h q in
          on ∙ ap (λ (t : List ℕ). get_or bs at 0 ∷ t) (none (cell_at bs (at + 1)) (omega (arith, ap length on)))

      begins : (d : Bool) → ltb at (length bs) ≡ d → cell_at bs at ≡ get_or bs at 0 ∷ []
      begins true q = goes (ltb-true at (length bs) q) (stop (get_or bs at 0)) refl
      begins false q = absurd (omega (arith, ap length (cell_none bs at (ltb-false at (length bs) q))))

-- a number cell: what its digits are worth, unless it is empty
module _ (bs : List ℕ) (at : ℕ) where
  pub number_digits : at < end_of bs at → number_of (cell_at bs at) ≡ says 0 (cell_at bs at)
  number_digits h = number_some (cell_at bs at) (omega arith)

  pub number_none : end_of bs at ≤ at → (at ≡ end_of bs at) × (None ≡ number_of (cell_at bs at))
  number_none h = (omega arith, sym (number_empty (cell_at bs at) (omega arith)))
