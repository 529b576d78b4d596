-- A list of elements stored at a place of a buffer: one behind another, and at the front.
-- Assumes nothing.
use Prim.Native.Nat.{ℕ, suc, ◌+◌, ◌≤◌}
use mathlib.Core.Path.{◌≡◌, sym, ap, ◌∙◌}
use mathlib.Core.List.{List, [], ◌∷◌, ◌++◌}
use native.Mathlib.Omega.{arith}
use lib.ListN.{length, set, take, drop, length-append}
use lib.Seq.{sets, sets-eq, take_at}

module _ {A : Type 0} where
  -- two lists, one behind the other
  pub sets_append : (vs ws l : List A) (i : ℕ) → sets (sets l i vs) (i + length vs) ws ≡ sets l i (vs ++ ws)
  sets_append [] ws l i = let e : i + 0 ≡ i = omega arith in rw e
  sets_append (v ∷ vs) ws l i =
      let e : i + suc (length vs) ≡ suc i + length vs = omega arith in
      rw e (sets_append vs ws (set l i v) (suc i))

  -- the same where the place is known by an equation
  pub sets_behind : (vs ws l : List A) (i j : ℕ) → i + length vs ≡ j → sets (sets l i vs) j ws ≡ sets l i (vs ++ ws)
  sets_behind vs ws l i j e = ap (λ (k : ℕ). sets (sets l i vs) k ws) (sym e) ∙ sets_append vs ws l i

  -- at the front, the rest stays
  pub sets_front : (vs l : List A) → length vs ≤ length l → sets l 0 vs ≡ vs ++ drop (length vs) l
  sets_front vs l h = let e : 0 + length vs ≡ length vs = omega arith in sets-eq vs l 0 (omega arith) ∙ ap (λ (k : ℕ). vs ++ drop k l) e

-- a result of n elements at the front of a list
module _ {A : Type 0} (result rest l : List A) (n : ℕ) (long : length result ≡ n) (e : l ≡ result ++ rest) where
  pub front_is : take n l ≡ result
  front_is = ap (take n) e ∙ take_at result rest n long

  pub front_long : n ≡ length (take n l)
  front_long = sym long ∙ ap length (sym front_is)

  pub front_in : n ≤ length l
  front_in = omega (arith, ap length e, length-append result rest, long)
