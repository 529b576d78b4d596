-- The loop that gathers the places at which a test holds, and a key of each place.
-- Assumes nothing.
use Prim.Native.Nat.{ℕ, ◌+◌, ◌≤◌, ◌<◌}
use mathlib.Core.Path.{◌≡◌, refl, ap, sym, ◌∙◌}
use mathlib.Core.Bool.{Bool, true, false}
use mathlib.Core.Logic.{◌⊎◌, inl, inr}
use mathlib.Core.List.{List, [], ◌∷◌, ◌++◌}
use native.Mathlib.Numerals.{add-one}
use native.Mathlib.Omega.{arith}
use lib.ListN.{length, get_or, take, drop, set, length-set}
use lib.Seq.{take-suc-set, drop-set-lt, drop-drop, get_or-set_same, get_or-set_other}
use Rattle.positions.specs.Places.{upto}
use Rattle.positions.proofs.Places.{below, upto_more, upto_out, upto_zero}
use Rattle.columns.specs.Gathered.{Gathered}

module _ (P : ℕ → Bool) (Key : ℕ → ℕ → Type 0) (keys₀ list₀ : List ℕ) where
  -- the first i places are gathered
  pub record Gathering (i m : ℕ) (keys list : List ℕ) : Type 0 where
    pub few : m ≤ i
    pub wide : length keys ≡ length keys₀
    pub long : length list ≡ length list₀
    pub keyed : (x : ℕ) → x < i → Key x (get_or keys x 0)
    pub front : take m list ≡ upto P i
    pub behind : drop m list ≡ drop m list₀

  pub gather_none : Gathering 0 0 keys₀ list₀
  gather_none =
      record { few = omega arith; wide = refl; long = refl; keyed = λ x h. absurd (omega arith); front = sym (upto_zero P); behind = refl }

  pub gather_end : (i m n : ℕ) (keys list : List ℕ) → i ≡ n → Gathering i m keys list → Gathered P Key n list₀ m keys list
  gather_end i m n keys list e g =
      rw (← e) (record { few = g.few; long = g.long; keyed = g.keyed; front = g.front; behind = g.behind })

  module _ (i m : ℕ) (keys list : List ℕ) (g : Gathering i m keys list) (v : ℕ) (k : Key i v) (h : i < length keys) where
    keyed_more : (x : ℕ) → x < i + 1 → Key x (get_or (set keys i v) x 0)
    keyed_more x l = go (below x i)
      where
        go : (x < i) ⊎ (i ≤ x) → Key x (get_or (set keys i v) x 0)
        go (inl a) = rw (get_or-set_other keys i x v 0 (λ e. omega arith)) (g.keyed x a)
        go (inr a) = let e : x ≡ i = omega arith in rw (e, get_or-set_same keys i v 0 h) k

    -- the test fails
    pub gather_out : P i ≡ false → Gathering (i + 1) m (set keys i v) list
    gather_out e =
        record {
          few = omega (arith, g.few);
          wide = length-set keys i v ∙ g.wide;
          long = g.long;
          keyed = keyed_more;
          front = g.front ∙ sym (upto_out P i e);
          behind = g.behind;
        }

    -- the test holds
    pub gather_in : P i ≡ true → m < length list → Gathering (i + 1) (m + 1) (set keys i v) (set list m i)
    gather_in e l =
        record {
          few = omega (arith, g.few);
          wide = length-set keys i v ∙ g.wide;
          long = length-set list m i ∙ g.long;
          keyed = keyed_more;
          front = rw (add-one m) (take-suc-set list m i l) ∙ ap (λ (z : List ℕ). z ++ (i ∷ [])) g.front ∙ sym (upto_more P i e);
          behind =
              drop-set-lt (m + 1) list m i (omega arith)
              ∙ sym (drop-drop 1 m list)
              ∙ ap (drop 1) g.behind
              ∙ drop-drop 1 m list₀;
        }
