-- A loop that copies the elements that pass a test to the front of a lent list.
-- Assumes nothing.
use Prim.Native.Nat.{ℕ, ◌+◌, ◌≤◌, ◌<◌}
use mathlib.Core.Path.{◌≡◌, refl, ap, sym, ◌∙◌}
use mathlib.Core.Bool.{Bool, true, false}
use mathlib.Core.List.{List, [], ◌∷◌, ◌++◌, append-nil}
use native.Mathlib.Omega.{arith}
use native.Mathlib.Numerals.{add-one}
use lib.ListN.{length, get_or, take, set, length-set}
use lib.Seq.{take_all, take-suc, take-suc-set}
use Rattle.lists.specs.Lists.{keep, put}
use Rattle.lists.proofs.Images.{keep_append}

-- the first m of out are those of the first i of the list that pass
pub record Keeping (P : ℕ → Bool) (list : List ℕ) (i m : ℕ) (out out₀ : List ℕ) : Type 0 where
  pub within : i ≤ length list
  pub few : m ≤ i
  pub long : length out ≡ length out₀
  pub written : take m out ≡ keep P (take i list)

module _ (P : ℕ → Bool) (list out₀ : List ℕ) where
  pub keep_none : Keeping P list 0 0 out₀ out₀
  unfolding keep
  keep_none = record { within = omega arith; few = omega arith; long = refl; written = refl }

  module _ (i m : ℕ) (out : List ℕ) (g : Keeping P list i m out out₀) where
    pub keep_end : length list ≤ i → (m ≤ length list) × (take m out ≡ keep P list)
    keep_end h = (omega (arith, g.few, g.within), g.written ∙ ap (keep P) (take_all i list h))

    module _ (h : i < length list) where
      one : keep P (take (i + 1) list) ≡ keep P (take i list) ++ put (P (get_or list i 0)) (get_or list i 0) []
      unfolding keep
      one = rw (add-one i, take-suc list i 0 h) (keep_append P (take i list) (get_or list i 0 ∷ []))

      pub keep_out : P (get_or list i 0) ≡ false → Keeping P list (i + 1) m out out₀
      unfolding put
      keep_out e = record { within = omega arith; few = omega (arith, g.few); long = g.long; written = g.written ∙ sym (one ∙ rw e (append-nil _)) }

      pub keep_on : P (get_or list i 0) ≡ true → m < length out → Keeping P list (i + 1) (m + 1) (set out m (get_or list i 0)) out₀
      unfolding put
      keep_on e l =
          record {
            within = omega arith;
            few = omega (arith, g.few);
            long = length-set out m (get_or list i 0) ∙ g.long;
            written = rw (add-one m, take-suc-set out m (get_or list i 0) l, g.written) (sym (one ∙ rw e));
          }
