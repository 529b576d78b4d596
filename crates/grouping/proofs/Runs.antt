-- The loop that keeps each number of a rising list once: what is kept so far, then what follows the last one kept, is constant.
-- Assumes nothing.
use Prim.Native.Nat.{ℕ, ◌+◌, ◌≤◌, ◌<◌}
use mathlib.Core.Path.{◌≡◌, refl, sym, ap, ◌∙◌}
use mathlib.Core.Logic.{◌≢◌}
use mathlib.Core.List.{List, [], ◌∷◌, ◌++◌, append-nil, append_assoc}
use native.Mathlib.Numerals.{add-one}
use native.Mathlib.Omega.{arith}
use lib.ListN.{length, get_or, take, drop, set, length-set, drop_of_length-le}
use lib.Seq.{drop-cons, take-suc-set, drop-set-lt, drop-drop, length-take-le}
use borrow.Author.Tests.{eq-eqb, ne_eqb}
use Rattle.grouping.specs.Registers.{others, distinct}

pub record Kept (list₀ list : List ℕ) (last m i : ℕ) : Type 0 where
  pub some : 1 ≤ m
  pub few : m ≤ i
  pub within : i ≤ length list₀
  pub long : length list ≡ length list₀
  pub ahead : drop i list ≡ drop i list₀
  pub rest : distinct list₀ ≡ take m list ++ others last (drop i list₀)

pub kept_first : (list : List ℕ) → 1 ≤ length list → Kept list list (get_or list 0 0) 1 1
unfolding distinct
kept_first [] h = absurd (omega arith)
kept_first (x ∷ l) h =
    record { some = omega arith; few = omega arith; within = omega arith; long = refl; ahead = refl; rest = refl }

module _ (list₀ list : List ℕ) (last m i : ℕ) (k : Kept list₀ list last m i) (h : i < length list₀) where
  abbrev next : ℕ
  next = get_or list i 0

  later : drop (i + 1) list ≡ drop (i + 1) list₀
  later = sym (drop-drop 1 i list) ∙ ap (drop 1) k.ahead ∙ drop-drop 1 i list₀

  -- what is ahead begins with the next number
  begins : drop i list₀ ≡ next ∷ drop (i + 1) list₀
  begins =
      let l : i < length list = omega (arith, k.long) in
      sym k.ahead ∙ drop-cons list i 0 l ∙ ap (λ (r : List ℕ). next ∷ r) (ap (λ (j : ℕ). drop j list) (sym (add-one i)) ∙ later)

  -- the number was kept before
  pub kept_again : next ≡ last → Kept list₀ list last m (i + 1)
  unfolding others
  kept_again e =
      record {
        some = k.some;
        few = omega (arith, k.few);
        within = omega arith;
        long = k.long;
        ahead = later;
        rest = k.rest ∙ ap (λ (r : List ℕ). take m list ++ r) (ap (others last) begins ∙ rw (eq-eqb next last e) refl);
      }

  -- it is a further one
  pub kept_more : next ≢ last → Kept list₀ (set list m next) next (m + 1) (i + 1)
  unfolding others
  kept_more n =
      record {
        some = omega arith;
        few = omega (arith, k.few);
        within = omega arith;
        long = length-set list m next ∙ k.long;
        ahead = drop-set-lt (i + 1) list m next (omega (arith, k.few)) ∙ later;
        rest =
            k.rest
            ∙ ap (λ (r : List ℕ). take m list ++ r) (ap (others last) begins ∙ rw (ne_eqb next last n) refl)
            ∙ sym (append_assoc (take m list) (next ∷ []) (others next (drop (i + 1) list₀)))
            ∙ ap (λ (r : List ℕ). r ++ others next (drop (i + 1) list₀)) (sym one_more);
      }
    where
      one_more : take (m + 1) (set list m next) ≡ take m list ++ (next ∷ [])
      one_more = rw (add-one m) (take-suc-set list m next (omega (arith, k.few, k.long)))

-- all numbers are passed
pub kept_end : (list₀ list : List ℕ) (last m i : ℕ) → length list₀ ≤ i → Kept list₀ list last m i →
    (m ≡ length (distinct list₀)) × (take m list ≡ distinct list₀)
unfolding others
kept_end list₀ list last m i h k =
    let e : take m list ≡ distinct list₀ = sym (k.rest ∙ rw (drop_of_length-le list₀ {i = i} h) (append-nil (take m list))) in
    (sym (length-take-le m list (omega (arith, k.few, k.within, k.long))) ∙ ap length e, e)

pub kept_none : (list : List ℕ) → length list < 1 → (0 ≡ length (distinct list)) × (◌≡◌ {A = List ℕ} [] (distinct list))
unfolding distinct
kept_none [] h = (refl, refl)
kept_none (x ∷ l) h = absurd (omega arith)
