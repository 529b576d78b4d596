-- Lists that are turned round, or whose first two are swapped: as the library does it, and of operations.
-- Assumes nothing.
use Prim.Native.Nat.{ℕ, ◌≤◌, ◌<◌}
use mathlib.Core.Path.{◌≡◌, refl, ap, sym, ◌∙◌}
use mathlib.Core.Bool.{Bool, true, false}
use mathlib.Core.Logic.{◌⊎◌, inl, inr}
use mathlib.Core.List.{List, [], ◌∷◌, ◌++◌, append-nil, append_assoc, reverse, reverse_aux}
use native.Mathlib.Omega.{arith}
use lib.ListN.{length}
use Rattle.std.specs.List.{swap as swap_places}
use Rattle.std.proofs.lemmas.List.{length-reverse}
use Rattle.lists.proofs.Tests.{both}
use Rattle.lists.proofs.Images.{map_append}
use Rattle.history.specs.declared.Op.{Op}
use Rattle.methods.specs.Fzf.{back, swap}
use Rattle.positions.specs.Columns.{op, ops}
use Rattle.choice.specs.Offered.{backward, swap_if}

pub ops_back : (H : List Op) (l : List ℕ) → ops H (backward l) ≡ back (ops H l)
unfolding backward back
ops_back H [] = refl
ops_back H (x ∷ l) = map_append (op H) (backward l) (x ∷ []) ∙ ap (λ (k : List Op). k ++ (op H x ∷ [])) (ops_back H l)

pub ops_swap : (H : List Op) (l : List ℕ) → ops H (swap_if true l) ≡ swap (ops H l)
unfolding swap_if swap
ops_swap H [] = refl
ops_swap H (x ∷ []) = refl
ops_swap H (x ∷ (y ∷ l)) = refl

-- the library's reversal, and its swap of the first two
pub back_reverse : (l : List ℕ) → reverse l ≡ backward l
unfolding backward
back_reverse l = go l [] ∙ append-nil (backward l)
  where
    go : (l r : List ℕ) → reverse_aux l r ≡ backward l ++ r
    go [] r = refl
    go (x ∷ l) r = go l (x ∷ r) ∙ sym (append_assoc (backward l) (x ∷ []) r)

pub swap_two : (l : List ℕ) → 1 < length l → swap_places l 0 1 ≡ swap_if true l
unfolding swap_if
swap_two [] h = absurd (omega arith)
swap_two (x ∷ []) h = absurd (omega arith)
swap_two (x ∷ (y ∷ l)) h = refl

-- nothing to swap
pub swap_none : (b : Bool) (l : List ℕ) → (b ≡ false) ⊎ (length l ≤ 1) → l ≡ swap_if b l
unfolding swap_if
swap_none false l h = refl
swap_none true l (inl e) = absurd (both refl e)
swap_none true [] (inr h) = refl
swap_none true (x ∷ []) (inr h) = refl
swap_none true (x ∷ (y ∷ l)) (inr h) = absurd (omega arith)

swap_length : (b : Bool) (l : List ℕ) → length (swap_if b l) ≡ length l
unfolding swap_if
swap_length false l = refl
swap_length true [] = refl
swap_length true (x ∷ []) = refl
swap_length true (x ∷ (y ∷ l)) = refl

pub turned_length : (b : Bool) (l : List ℕ) → length l ≡ length (backward (swap_if b l))
turned_length b l = sym (swap_length b l) ∙ sym (length-reverse (swap_if b l)) ∙ ap length (back_reverse (swap_if b l))
