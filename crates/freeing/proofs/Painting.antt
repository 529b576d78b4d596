-- The loop that marks the clusters of a list, and of two lists.
-- Assumes nothing.
use Prim.Native.Nat.{ℕ, ◌+◌, ◌≤◌, ◌<◌}
use mathlib.Core.Path.{◌≡◌, refl, ap, sym, ◌∙◌}
use mathlib.Core.Bool.{Bool, true, false, not, cond}
use mathlib.Core.List.{List, [], ◌∷◌, ◌++◌}
use native.Mathlib.Omega.{arith}
use native.Mathlib.Numerals.{add-one}
use lib.ListN.{length, get_or, take}
use lib.Seq.{take_all, take-suc}
use lib.Dec.{eqb}
use Rattle.lists.specs.Lists.{all}
use Rattle.freeing.specs.Marks.{unlisted, Dyed, Painted}
use Rattle.freeing.proofs.Listing.{all_append, all_one}

-- the clusters of the first i have the mark m
pub record Painting (writer list : List ℕ) (m i : ℕ) (old marks : List ℕ) : Type 0 where
  pub within : i ≤ length list
  pub long : length marks ≡ length old
  pub painted : Painted writer (take i list) m old marks

-- one list and then another
pub paint_both : (writer a b : List ℕ) (m : ℕ) (old mid marks : List ℕ) → Painted writer a m old mid → Painted writer b m mid marks → Painted writer (a ++ b) m old marks
paint_both writer a b m old mid marks p q j l =
    q j l
    ∙ ap (λ (x : ℕ). cond (unlisted b v) x m) (p j l)
    ∙ go (unlisted a v) (unlisted b v)
    ∙ sym (ap (λ (t : Bool). cond t (get_or old j 0) m) (all_append (λ w. not (eqb v w)) a b))
  where
    v : ℕ
    v = get_or writer j 0

    go : (s t : Bool) → cond t (cond s (get_or old j 0) m) m ≡ cond (cond s t false) (get_or old j 0) m
    go true t = refl
    go false true = refl
    go false false = refl

module _ (writer list : List ℕ) (m : ℕ) (old : List ℕ) where
  pub paint_none : Painting writer list m 0 old old
  unfolding all
  paint_none = record { within = omega arith; long = refl; painted = λ j l. refl }

  module _ (i : ℕ) (marks : List ℕ) (g : Painting writer list m i old marks) where
    pub paint_end : length list ≤ i → Painted writer list m old marks
    paint_end h j l = g.painted j l ∙ ap (λ (k : List ℕ). cond (unlisted k (get_or writer j 0)) (get_or old j 0) m) (take_all i list h)

    pub paint_on : i < length list → (marks' : List ℕ) → length marks' ≡ length marks → Dyed writer (get_or list i 0) m marks marks' → Painting writer list m (i + 1) old marks'
    paint_on h marks' e d = record { within = omega arith; long = e ∙ g.long; painted = λ j l. rw next (paint_both writer (take i list) (w ∷ []) m old marks marks' g.painted one j l) }
      where
        w : ℕ
        w = get_or list i 0

        next : take (i + 1) list ≡ take i list ++ (w ∷ [])
        next = rw (add-one i) (take-suc list i 0 h)

        turn : (b : Bool) (x : ℕ) → cond b m x ≡ cond (not b) x m
        turn true x = refl
        turn false x = refl

        one : Painted writer (w ∷ []) m marks marks'
        one j l =
            d j l
            ∙ turn (eqb (get_or writer j 0) w) (get_or marks j 0)
            ∙ sym (ap (λ (t : Bool). cond t (get_or marks j 0) m) (all_one (λ x. not (eqb (get_or writer j 0) x)) w))
